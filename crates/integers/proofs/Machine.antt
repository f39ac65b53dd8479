-- A signed difference of two naturals in machine numbers: what a cast and one subtraction ask and give.
-- Assumes nothing.
use mathlib.Core.Path.{◌≡◌, ap, ◌∙◌}
use mathlib.Core.Bool.{Bool, true, false, cond}
use Prim.Native.Nat.{ℕ, zero, suc, ◌+◌, ◌-◌, ◌<◌, ◌≤◌, ◌^◌}
use native.Mathlib.Omega.{arith}
use native.Mathlib.Nat.{lt_of_le_of_lt, le_of_lt}
use lib.IntN.{ℤ, pos, negsuc, nat_abs, ◌+ℤ◌, ◌-ℤ◌}
use lib.Signed.{mag, non_neg}
use lib.Dec.{T, ltb, ltb→lt}
use mir.Syntax.{Width}
use mir.Val.{SFits, hbits, to_z, of_z}
use mir.Facts.{to_z-of_z, to_z_pos}

mag-cond : (t : Bool) (a b : ℕ) → mag (cond t (negsuc (b - suc a)) (pos (a - b))) ≤ a + b
mag-cond true a b = omega arith
mag-cond false a b = omega arith

pub mag_diff : (a b : ℕ) → mag (pos a -ℤ pos b) ≤ a + b
mag_diff a zero = omega arith
mag_diff a (suc b) = mag-cond (ltb a (suc b)) a (suc b)

module _ (w : Width) (a b : ℕ) (fits : a + b < 2 ^ hbits w) where
  small : a < 2 ^ hbits w
  small = omega arith

  -- a cast to the signed type, less b
  pub diff_fits : SFits w (to_z w a -ℤ pos b)
  diff_fits = rw (to_z_pos w small) (record { sfits = lt_of_le_of_lt (mag_diff a b) fits })

  pub diff_is : to_z w (of_z w (to_z w a -ℤ pos b)) ≡ pos a -ℤ pos b
  diff_is = to_z-of_z diff_fits ∙ ap (λ (z : ℤ). z -ℤ pos b) (to_z_pos w small)

-- an integer whose magnitude is below half the width's power fits the signed width
pub abs_fits : (w : Width) (z : ℤ) → nat_abs z < 2 ^ hbits w → SFits w z
abs_fits w (pos a) h = record { sfits = h }
abs_fits w (negsuc a) h = record { sfits = le_of_lt h }

-- a bias that is no smaller than a magnitude makes a number that is not negative
pub biased_nat : (z : ℤ) (b : ℕ) → nat_abs z ≤ b → T (non_neg (z +ℤ pos b))
biased_nat (pos a) b h = tt
biased_nat (negsuc a) b h = go (ltb b (suc a)) (ltb→lt b (suc a))
  where
    go : (t : Bool) → (T t → b < suc a) → T (non_neg (cond t (negsuc (suc a - suc b)) (pos (b - suc a))))
    go true f = let l = f tt in absurd (omega arith)
    go false f = tt
