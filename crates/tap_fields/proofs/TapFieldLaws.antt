-- Tests that the code runs part by part. Assumes nothing.
use Prim.Native.Nat.{ℕ, ◌+◌}
use mathlib.Core.Path.{◌≡◌}
use mathlib.Core.Bool.{Bool}
use mathlib.Core.List.{List, ◌++◌}
use lib.ListN.{drop}
use Rattle.refusals.specs.Refusal.{verdict, and_then}
use Rattle.std.specs.Prelude.{Ok}
use Rattle.refusals.proofs.Passed.{AllPass, verdict_append, all_pass, all_append}
use Rattle.recipe_bytes.specs.Bytes.{at}
use Rattle.axis_fields.specs.AxisFields.{sizes_length, size_tests, axis_tests, weight_tests}
use Rattle.tap_fields.specs.TapFields.{tap_tests}

-- after sizes that pass
pub taps_of : (real : Bool) (b : List ℕ) → verdict (size_tests real b) ≡ Ok tt → verdict (tap_tests real b)
    ≡ and_then (verdict (axis_tests (at b 0) (drop (sizes_length real) b)))
    (and_then (verdict (axis_tests (at b 1) (drop (sizes_length real + at b 0) b))) (verdict (weight_tests real (at b 0 + at b 1) (drop (sizes_length real + (at b 0 + at b 1)) b))))
unfolding tap_tests
taps_of real b h =
    let x = axis_tests (at b 0) (drop (sizes_length real) b) in
    let y = axis_tests (at b 1) (drop (sizes_length real + at b 0) b) in
    let z = weight_tests real (at b 0 + at b 1) (drop (sizes_length real + (at b 0 + at b 1)) b) in
    rw (verdict_append (size_tests real b) (x ++ (y ++ z)), h, verdict_append x (y ++ z), verdict_append y z)

-- the parts of tests that pass
pub parts : (real : Bool) (b : List ℕ) → verdict (tap_tests real b) ≡ Ok tt
    → AllPass (size_tests real b)
    × AllPass (axis_tests (at b 0) (drop (sizes_length real) b))
    × AllPass (axis_tests (at b 1) (drop (sizes_length real + at b 0) b))
    × AllPass (weight_tests real (at b 0 + at b 1) (drop (sizes_length real + (at b 0 + at b 1)) b))
unfolding tap_tests
parts real b h =
    let p = all_append (size_tests real b) _ (all_pass (tap_tests real b) h) in
    let q = all_append (axis_tests (at b 0) (drop (sizes_length real) b)) _ p.1 in
    let r = all_append (axis_tests (at b 1) (drop (sizes_length real + at b 0) b)) _ q.1 in
    (p.0, q.0, r.0, r.1)
