-- Kinds 1 and 2 ('Recipe bytes'), after the three header bytes: sizes, then an array of offsets and one of weights, in both the taps across before those down.
use Rattle.std.specs.Prelude.{ℕ, ◌+◌, Bool, List, ◌++◌, drop}
use Rattle.refusals.specs.Refusal.{Test}
use Rattle.recipe_bytes.specs.Bytes.{at}
use Rattle.axis_fields.specs.AxisFields.{sizes_length, size_tests, axis_tests, weight_tests}

-- the fields in byte order
unfoldable pub tap_tests : Bool → List ℕ → List Test
tap_tests real b =
    size_tests real b
    ++ (axis_tests (at b 0) (drop (sizes_length real) b)
    ++ (axis_tests (at b 1) (drop (sizes_length real + at b 0) b)
    ++ weight_tests real (at b 0 + at b 1) (drop (sizes_length real + (at b 0 + at b 1)) b)))
