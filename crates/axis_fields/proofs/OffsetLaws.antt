-- The offsets of an axis, tested one by one. The code holds an offset 128 too large. Assumes nothing.
use Prim.Native.Nat.{ℕ, suc, ◌+◌, ◌-◌, ◌≤◌, ◌<◌}
use native.Mathlib.Omega.{arith}
use mathlib.Core.Path.{◌≡◌, refl, ap, ◌∙◌}
use mathlib.Core.Bool.{true, false, cond, ◌&&◌, and-false}
use mathlib.Core.Logic.{◌⊎◌, inl, inr}
use mathlib.Core.List.{List}
use lib.ListN.{length, get_or, drop, length-drop}
use lib.Seq.{drop-drop, get_or-drop}
use lib.IntN.{ℤ, pos, negsuc, ◌+ℤ◌, ◌-ℤ◌}
use lib.Signed.{le_z}
use borrow.Author.Tests.{le-leb, lt-leb}
use Rattle.integers.proofs.Parts.{pos_part, neg_part, parts_ext, add_parts, sub_parts}
use Rattle.refusals.specs.declared.Refusal.TheVariants as Refusal
use Rattle.refusals.specs.Refusal.{Test, verdict}
use Rattle.std.specs.Prelude.{Ok, Err}
use Rattle.recipe_bytes.specs.Bytes.{signed8, there}
use Rattle.axis_fields.specs.AxisFields.{offset_tests, axis_tests}

-- the integer that a raised one stands for
abbrev lowered : ℕ → ℤ
lowered o = pos o -ℤ pos 128

lower : (o : ℕ) (z : ℤ) → pos o ≡ z +ℤ pos 128 → z ≡ lowered o
lower o z e = parts_ext _ _ (omega (arith, add_parts z (pos 128), sub_parts (pos o) (pos 128), ap pos_part e, ap neg_part e))

le-true : (x y : ℤ) → pos_part x + neg_part y ≤ pos_part y + neg_part x → le_z x y ≡ true
le-true (pos a) (pos b) h = le-leb a b (omega arith)
le-true (pos a) (negsuc b) h = absurd (omega arith)
le-true (negsuc a) (pos b) h = refl
le-true (negsuc a) (negsuc b) h = le-leb b a (omega arith)

le-false : (x y : ℤ) → pos_part y + neg_part x < pos_part x + neg_part y → le_z x y ≡ false
le-false (pos a) (pos b) h = lt-leb a b (omega arith)
le-false (pos a) (negsuc b) h = refl
le-false (negsuc a) (pos b) h = absurd (omega arith)
le-false (negsuc a) (negsuc b) h = lt-leb b a (omega arith)

low_ok : (l o : ℕ) → l ≤ o → le_z (lowered l) (lowered o) ≡ true
low_ok l o h = le-true (lowered l) (lowered o) (omega (arith, sub_parts (pos l) (pos 128), sub_parts (pos o) (pos 128)))

low_bad : (l o : ℕ) → o < l → le_z (lowered l) (lowered o) ≡ false
low_bad l o h = le-false (lowered l) (lowered o) (omega (arith, sub_parts (pos l) (pos 128), sub_parts (pos o) (pos 128)))

high_ok : (o : ℕ) → o ≤ 143 → le_z (lowered o) (pos 15) ≡ true
high_ok o h = le-true (lowered o) (pos 15) (omega (arith, sub_parts (pos o) (pos 128)))

high_bad : (o : ℕ) → 143 < o → le_z (lowered o) (pos 15) ≡ false
high_bad o h = le-false (lowered o) (pos 15) (omega (arith, sub_parts (pos o) (pos 128)))

next : (o : ℕ) → lowered o +ℤ pos 1 ≡ lowered (o + 1)
next o = parts_ext _ _ (omega (arith, sub_parts (pos o) (pos 128), sub_parts (pos (o + 1)) (pos 128), add_parts (pos o -ℤ pos 128) (pos 1)))

-- ---- the offset at i of n

module _ (least n i : ℕ) (part : List ℕ) where
  -- what is left to test
  abbrev pub left : List ℕ → ℕ → ℕ → List Test
  left p k l = offset_tests (pos l -ℤ pos 128) (n - k) (drop k p)

  pub offset_end : n ≤ i → verdict (left part i least) ≡ Ok tt
  unfolding offset_tests verdict
  offset_end h = let e : n - i ≡ 0 = omega arith in rw e

  pub offset-cut : i < n → length part ≤ i → verdict (left part i least) ≡ Err Refusal.Cut
  unfolding offset_tests verdict there
  offset-cut h l = let e : n - i ≡ suc (n - (i + 1)) = omega arith in rw (e, length-drop i part, lt-leb 1 (length part - i) (omega arith))

  module _ (o : ℕ) (h : i < n) (l : i < length part) (e : pos o ≡ signed8 (get_or part i 0) +ℤ pos 128) where
    step : verdict (left part i least) ≡ cond (le_z (lowered least) (lowered o) && le_z (lowered o) (pos 15)) (verdict (left part (i + 1) (o + 1))) (Err Refusal.Offset)
    unfolding offset_tests verdict there
    step =
        let d : n - i ≡ suc (n - (i + 1)) = omega arith in
        let s : signed8 (get_or part (i + 0) 0) ≡ lowered o = ap (λ (k : ℕ). signed8 (get_or part k 0)) (omega arith) ∙ lower o (signed8 (get_or part i 0)) e in
        rw (d, length-drop i part, le-leb 1 (length part - i) (omega arith), get_or-drop i part 0 0, s, next o, drop-drop 1 i part)

    pub offset_good : least ≤ o → o ≤ 143 → verdict (left part i least) ≡ verdict (left part (i + 1) (o + 1))
    offset_good a b = step ∙ rw (low_ok least o a, high_ok o b)

    pub offset_bad : (o < least) ⊎ ((least ≤ o) × (143 < o)) → verdict (left part i least) ≡ Err Refusal.Offset
    offset_bad (inl a) = step ∙ rw (low_bad least o a)
    offset_bad (inr a) = step ∙ rw (high_bad o a.1, and-false)

pub axis_start : (n : ℕ) (part : List ℕ) → verdict (axis_tests n part) ≡ verdict (left 113 n 0 part part 0 113)
unfolding axis_tests
axis_start n part = let e : n - 0 ≡ n = omega arith in rw e
