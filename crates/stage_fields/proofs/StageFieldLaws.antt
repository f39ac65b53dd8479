-- The kinds by their numbers, the tests as the code runs them, and what bytes that pass them have. Assumes nothing.
use Prim.Native.Nat.{ℕ, ◌+◌, ◌≤◌, ◌<◌}
use native.Mathlib.Omega.{arith}
use mathlib.Core.Path.{◌≡◌, refl, ap, ◌∙◌}
use mathlib.Core.Bool.{true, false, ◌&&◌, ◌||◌}
use mathlib.Core.Logic.{◌⊎◌, inl, inr}
use mathlib.Core.List.{List, ◌++◌}
use lib.ListN.{length}
use lib.Dec.{leb, eqb}
use borrow.Author.Tests.{leb-true, le-leb, lt-leb}
use Rattle.std.specs.Prelude.{Result, Ok, Err, IsOk}
use Rattle.refusals.specs.declared.Refusal.{Refusal}
use Rattle.refusals.specs.Refusal.{Test, verdict, and_then}
use Rattle.refusals.proofs.Passed.{AllPass, verdict_append, between}
use Rattle.model.specs.Window.{area}
use Rattle.recipe_bytes.specs.Bytes.{at, word, there, field}
use Rattle.stage_fields.specs.declared.Kind.{Kind}
use Rattle.stage_fields.specs.declared.Kind.TheVariants.{Ratios, Reals, Binomial, Box, Rank, Outline}
use Rattle.stage_fields.specs.Kind.{number, KindOf}
use Rattle.stage_fields.specs.StageFields.{head_tests, radius_tests, position_tests}

-- ---- numbers of kinds

pub kind_numbers : (kind : Kind) → (1 ≤ number kind) × (number kind ≤ 6)
kind_numbers Ratios = (omega arith, omega arith)
kind_numbers Reals = (omega arith, omega arith)
kind_numbers Binomial = (omega arith, omega arith)
kind_numbers Box = (omega arith, omega arith)
kind_numbers Rank = (omega arith, omega arith)
kind_numbers Outline = (omega arith, omega arith)

-- the test of a number that some kind has, and of one that no kind has
pub kind_tested : (kind : Kind) (n : ℕ) → number kind ≡ n → (leb 1 n && leb n 6) ≡ true
kind_tested kind n e = let k = kind_numbers kind in rw (le-leb 1 n (omega arith), le-leb n 6 (omega arith))

pub no-kind : (m n : ℕ) → m ≡ n → (m < 1) ⊎ (6 < m) → (leb 1 n && leb n 6) ≡ false
no-kind m n e (inl h) = rw (lt-leb 1 n (omega arith))
no-kind m n e (inr h) = rw (le-leb 1 n (omega arith), lt-leb n 6 (omega arith))

-- of a number from 1 to 6 there is a kind
pub kind_found : (n : ℕ) (r : Result Kind Refusal) → 1 ≤ n → n ≤ 6 → KindOf n r → IsOk r
kind_found n (Ok kind) l h k = refl
kind_found n (Err refusal) l h k = absurd (omega (arith, k.1))

-- ---- the tests in their order

pub head_of : (b : List ℕ) → verdict (head_tests b)
    ≡ and_then (verdict (field b 1 (leb 1 (at b 0) && leb (at b 0) 6) Refusal.Kind))
    (and_then (verdict (field b 2 (leb (at b 1) 3) Refusal.Kind)) (verdict (field b 3 (eqb (at b 1) 0 || eqb (at b 2) 0) Refusal.Kind)))
unfolding head_tests
head_of b =
    let x = field b 1 (leb 1 (at b 0) && leb (at b 0) 6) Refusal.Kind in
    let y = field b 2 (leb (at b 1) 3) Refusal.Kind in
    let z = field b 3 (eqb (at b 1) 0 || eqb (at b 2) 0) Refusal.Kind in
    verdict_append x (y ++ z) ∙ ap (and_then (verdict x)) (verdict_append y z)

-- the test of a radius
abbrev pub radius_test : List ℕ → ℕ → List Test
radius_test b k = field b (k + 1) (leb (at b k) 15) Refusal.Count

pub radii_of : (b : List ℕ) → verdict (radius_tests b) ≡ and_then (verdict (radius_test b 0)) (verdict (radius_test b 1))
unfolding radius_tests
radii_of b = verdict_append (radius_test b 0) (radius_test b 1)

-- ---- bytes that pass

pub head_passed : (b : List ℕ) → AllPass (head_tests b) → (1 ≤ at b 0) × (at b 0 ≤ 6) × (at b 1 ≤ 3) × (3 ≤ length b)
unfolding head_tests there
head_passed b p = let k = between 1 (at b 0) 6 p.1.0 in (k.0, k.1, leb-true (at b 1) 3 p.1.1.1.0, leb-true 3 (length b) p.1.1.1.1.0)

pub radius_passed : (b : List ℕ) → AllPass (radius_tests b) → (at b 0 ≤ 15) × (at b 1 ≤ 15) × (2 ≤ length b)
unfolding radius_tests there
radius_passed b p = (leb-true (at b 0) 15 p.1.0, leb-true (at b 1) 15 p.1.1.1.0, leb-true 2 (length b) p.1.1.0)

pub position_passed : (b : List ℕ) → AllPass (position_tests b) → (1 ≤ word b 2) × (word b 2 ≤ area (at b 0) (at b 1)) × (4 ≤ length b)
unfolding position_tests there
position_passed b p = let w = between 1 (word b 2) (area (at b 0) (at b 1)) p.1.0 in (w.0, w.1, leb-true 4 (length b) p.0)
