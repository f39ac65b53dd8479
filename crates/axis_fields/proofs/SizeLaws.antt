-- The tests of the sizes, which the code runs field by field, and their lengths. Assumes nothing.
use Prim.Native.Nat.{ℕ, ◌+◌, ◌≤◌}
use native.Mathlib.Omega.{arith}
use mathlib.Core.Path.{◌≡◌, refl, ap, ◌∙◌}
use mathlib.Core.Bool.{Bool, true, false}
use mathlib.Core.List.{List, ◌++◌}
use lib.Dec.{leb}
use Rattle.std.specs.Prelude.{Ok, Err, cond}
use Rattle.refusals.specs.declared.Refusal.TheVariants as Refusal
use Rattle.refusals.specs.Refusal.{Test, Verdict, verdict, and_then}
use Rattle.refusals.proofs.Passed.{verdict_append}
use Rattle.recipe_bytes.specs.Bytes.{at, word, field}
use Rattle.axis_fields.specs.AxisFields.{is_count, sizes_length, size_tests, weight_length}

-- the test of a count, and of a divisor
abbrev pub count_test : List ℕ → ℕ → List Test
count_test b k = field b (k + 1) (is_count (at b k)) Refusal.Count

abbrev pub divisor_test : List ℕ → ℕ → List Test
divisor_test b k = field b (k + 2) (leb 1 (word b k)) Refusal.Count

and_then-passed : (v : Verdict) → and_then v (Ok tt) ≡ v
and_then-passed (Ok u) = refl
and_then-passed (Err r) = refl

-- reals have the counts, and ratios the divisors behind them
pub sizes_of : (real : Bool) (b : List ℕ) → verdict (size_tests real b) ≡ and_then (verdict (count_test b 0)) (and_then (verdict (count_test b 1)) (cond real (Ok tt) (and_then (verdict (divisor_test b 2)) (verdict (divisor_test b 4)))))
unfolding size_tests
sizes_of true b = rw (verdict_append (count_test b 0) (count_test b 1), and_then-passed (verdict (count_test b 1)))
sizes_of false b =
    let x = count_test b 0 in
    let y = count_test b 1 in
    let z = divisor_test b 2 in
    let w = divisor_test b 4 in
    verdict_append x (y ++ z ++ w) ∙ ap (and_then (verdict x)) (verdict_append y (z ++ w) ∙ ap (and_then (verdict y)) (verdict_append z w))

pub sizes_least : (real : Bool) → 2 ≤ sizes_length real
unfolding sizes_length
sizes_least true = omega arith
sizes_least false = omega arith

pub sizes_most : (real : Bool) → sizes_length real ≤ 6
unfolding sizes_length
sizes_most true = omega arith
sizes_most false = omega arith

pub length_small : (real : Bool) → weight_length real ≤ 4
unfolding weight_length
length_small true = omega arith
length_small false = omega arith
