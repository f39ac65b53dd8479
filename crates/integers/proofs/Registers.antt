-- A signed machine number is its bits. For each operation: what it asks (`..-fits`) and what its result is (`..-bits`). Assumes nothing.
use Prim.Native.Nat.{ℕ, ◌+◌, ◌<◌, ◌≤◌, ◌^◌}
use native.Mathlib.Omega.{arith}
use mathlib.Core.Path.{◌≡◌, refl, sym, ◌∙◌, subst}
use mathlib.Core.Bool.{Bool, true, false, not}
use lib.Dec.{T, leb}
use lib.IntN.{ℤ, pos, negsuc, nat_abs, ◌+ℤ◌, ◌-ℤ◌, ◌*ℤ◌}
use lib.Signed.{shr_z, mag_shr, non_neg, lt_z, lt_z_no, le_z}
use lib.Dec.{leb→le}
use mir.Syntax.{Width}
use mir.Val.{to_z, of_z, SFits, Fits, bits, hbits}
use mir.Facts.{sfits_widen}
use mir.ValLaws.{to_z-of_z, to_z_pos, sfits_le}
use Rattle.integers.proofs.Parts.{pos_part, neg_part, abs_parts}
use Rattle.integers.proofs.Order.{parts_of_lt}

-- the bits n are those of z, which the width has room for
pub record Bits (w : Width) (n : ℕ) (z : ℤ) : Type 0 where
  pub is : to_z w n ≡ z
  pub fits : SFits w z

pub of-bits : {w : Width} {z : ℤ} → SFits w z → Bits w (of_z w z) z
of-bits {w} {z} f = record { is = to_z-of_z w z f; fits = f }

-- a natural number below half the width's power
pub nat_bits : (w : Width) (n : ℕ) → n < 2 ^ hbits w → Bits w n (pos n)
nat_bits w n h = record { is = to_z_pos w n h; fits = record { sfits = h } }

module _ {w : Width} {m n : ℕ} {x y : ℤ} (p : Bits w m x) (q : Bits w n y) where
  both : (P : ℤ → ℤ → Type 0) → P x y → P (to_z w m) (to_z w n)
  both P h = subst (λ (u : ℤ). P u (to_z w n)) (sym p.is) (subst (P x) (sym q.is) h)

  pub add-fits : SFits w (x +ℤ y) → SFits w (to_z w m +ℤ to_z w n)
  add-fits f = both (λ (u v : ℤ). SFits w (u +ℤ v)) f

  pub mul-fits : SFits w (x *ℤ y) → SFits w (to_z w m *ℤ to_z w n)
  mul-fits f = both (λ (u v : ℤ). SFits w (u *ℤ v)) f

  pub add-bits : SFits w (x +ℤ y) → Bits w (of_z w (to_z w m +ℤ to_z w n)) (x +ℤ y)
  add-bits f = both (λ (u v : ℤ). Bits w (of_z w (u +ℤ v)) (x +ℤ y)) (of-bits f)

  pub mul-bits : SFits w (x *ℤ y) → Bits w (of_z w (to_z w m *ℤ to_z w n)) (x *ℤ y)
  mul-bits f = both (λ (u v : ℤ). Bits w (of_z w (u *ℤ v)) (x *ℤ y)) (of-bits f)

  pub sub_fits : SFits w (x -ℤ y) → SFits w (to_z w m -ℤ to_z w n)
  sub_fits f = both (λ (u v : ℤ). SFits w (u -ℤ v)) f

  pub sub_bits : SFits w (x -ℤ y) → Bits w (of_z w (to_z w m -ℤ to_z w n)) (x -ℤ y)
  sub_bits f = both (λ (u v : ℤ). Bits w (of_z w (u -ℤ v)) (x -ℤ y)) (of-bits f)

  -- a test of two signed numbers, as a fact of their parts
  pub lt-true : lt_z (to_z w m) (to_z w n) ≡ true → pos_part x + neg_part y < pos_part y + neg_part x
  lt-true e = parts_of_lt {x = x} {y = y} (record { lt = subst T (sym (sym (both (λ (u v : ℤ). lt_z u v ≡ lt_z x y) refl) ∙ e)) tt })

  pub lt-false : lt_z (to_z w m) (to_z w n) ≡ false → pos_part y + neg_part x ≤ pos_part x + neg_part y
  lt-false e = le_parts y x (lt_z_no {a = x} {b = y} (subst (λ (t : Bool). T (not t)) (sym (sym (both (λ (u v : ℤ). lt_z u v ≡ lt_z x y) refl) ∙ e)) tt)).le
    where
      le_parts : (x y : ℤ) → T (le_z x y) → pos_part x + neg_part y ≤ pos_part y + neg_part x
      le_parts (pos a) (pos b) h = omega (arith, leb→le a b h)
      le_parts (pos a) (negsuc b) h = absurd h
      le_parts (negsuc a) (pos b) h = omega arith
      le_parts (negsuc a) (negsuc b) h = omega (arith, leb→le b a h)

-- a shift to the right rounds down, and asks nothing
pub shr_bits : {w : Width} {n : ℕ} {z : ℤ} → Bits w n z → (m : ℕ) → Bits w (of_z w (shr_z (to_z w n) m)) (shr_z z m)
shr_bits {w} {n} {z} h m = subst (λ (u : ℤ). Bits w (of_z w (shr_z u m)) (shr_z z m)) (sym h.is) (of-bits (sfits_le (mag_shr z m) h.fits))

module _ {w : Width} {n : ℕ} {z : ℤ} (p : Bits w n z) where
  one : (Q : ℤ → Type 0) → Q z → Q (to_z w n)
  one Q h = subst Q (sym p.is) h

  -- a cast to a signed width that is as wide or wider
  pub widen_fits : (w' : Width) → T (leb (hbits w) (hbits w')) → SFits w' (to_z w n)
  widen_fits w' t = one (SFits w') (sfits_widen t p.fits)

  pub widen_bits : (w' : Width) → T (leb (hbits w) (hbits w')) → Bits w' (of_z w' (to_z w n)) z
  widen_bits w' t = one (λ (u : ℤ). Bits w' (of_z w' u) z) (of-bits (sfits_widen t p.fits))

  -- a cast to an unsigned width
  pub nat_cast_fits : (w' : Width) → neg_part z ≡ 0 → pos_part z < 2 ^ bits w' → T (non_neg (to_z w n)) × Fits w' (nat_abs (to_z w n))
  nat_cast_fits w' e h = one (λ (u : ℤ). T (non_neg u) × Fits w' (nat_abs u)) (at z e h)
    where
      at : (z : ℤ) → neg_part z ≡ 0 → pos_part z < 2 ^ bits w' → T (non_neg z) × Fits w' (nat_abs z)
      at (pos a) e h = (tt, record { fits = h })
      at (negsuc a) e h = absurd (omega arith)

  pub nat_cast_is : neg_part z ≡ 0 → nat_abs (to_z w n) ≡ pos_part z
  nat_cast_is e = one (λ (u : ℤ). nat_abs u ≡ pos_part z) (omega (arith, abs_parts z))
