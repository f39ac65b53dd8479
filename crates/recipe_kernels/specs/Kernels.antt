-- Kinds 1 and 2, after the three header bytes: their two kernels, their gains, and all their tests.
use Rattle.std.specs.Prelude.{ℕ, ◌+◌, ◌*◌, Bool, cond, List, [], ◌∷◌, ◌++◌, eqb}
use Rattle.refusals.specs.Refusal.{Test}
use Rattle.model.specs.Kernel.{Kernel}
use Rattle.model.specs.Stage.{Work, weighted}
use Rattle.recipe_bytes.specs.Bytes.{at}
use Rattle.axis_fields.specs.AxisFields.{sizes_length, divisor_at, weight_length}
use Rattle.tap_fields.specs.TapFields.{tap_tests}
use Rattle.taps.specs.TapBytes.{kernel_at}
use Rattle.gain_tests.specs.Gain.{gain_test}

-- axis 0 is across, 1 is down: how many taps come before an axis's own in each array, where those across stand in front
unfoldable pub taps_before : ℕ → List ℕ → ℕ
taps_before axis b = cond (eqb axis 0) 0 (at b 0)

-- the kernel of an axis
unfoldable pub kernel_on : Bool → ℕ → List ℕ → Kernel
kernel_on real axis b =
    kernel_at real (divisor_at real (2 + 2 * axis) b) b (at b axis)
    (sizes_length real + taps_before axis b)
    (sizes_length real + (at b 0 + at b 1) + weight_length real * taps_before axis b)

-- the tests of both gains, which come after those of all fields
unfoldable pub gain_tests : Bool → List ℕ → List Test
gain_tests real b = gain_test (kernel_on real 0 b) ∷ gain_test (kernel_on real 1 b) ∷ []

-- all tests, how many bytes they cover, and the work
unfoldable pub weighted_tests : Bool → List ℕ → List Test
weighted_tests real b = tap_tests real b ++ gain_tests real b

unfoldable pub weighted_length : Bool → List ℕ → ℕ
weighted_length real b = sizes_length real + (at b 0 + at b 1) + weight_length real * (at b 0 + at b 1)

unfoldable pub weighted_work : Bool → List ℕ → Work
weighted_work real b = weighted (kernel_on real 0 b) (kernel_on real 1 b)
