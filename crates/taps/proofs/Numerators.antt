-- Numerators as the code holds them. Assumes nothing.
use Prim.Native.Nat.{ℕ, ◌+◌, ◌*◌, ◌≤◌, ◌<◌}
use native.Mathlib.Nat.{mul-le-mul_left}
use native.Mathlib.Omega.{arith}
use mathlib.Core.Path.{◌≡◌}
use mathlib.Core.Bool.{Bool}
use lib.Dec.{T}
use lib.IntN.{ℤ, pos, nat_abs, ◌+ℤ◌}
use lib.Signed.{non_neg}
use mir.Syntax.{w64}
use mir.Val.{to_z, of_z, SFits, Fits}
use mir.ValLaws.{to_z-of_z}
use Rattle.integers.proofs.Parts.{abs_parts, add_parts}
use Rattle.integers.proofs.Machine.{abs_fits, biased_nat}
use Rattle.axis_fields.specs.AxisFields.{weight_length}
use Rattle.taps.specs.Held.{held_numerator}

module _ (a : ℤ) (h : nat_abs a ≤ 137438953472) where
  same : to_z w64 (of_z w64 a) ≡ a
  same = to_z-of_z w64 a (abs_fits w64 a (omega arith))

  sum_small : nat_abs (a +ℤ pos 274877906944) ≤ 412316860416
  sum_small = omega (arith, abs_parts a, abs_parts (a +ℤ pos 274877906944), add_parts a (pos 274877906944))

  sum_fits : SFits w64 (a +ℤ pos 274877906944)
  sum_fits = abs_fits w64 (a +ℤ pos 274877906944) (omega (arith, sum_small))

  sum_same : to_z w64 (of_z w64 (a +ℤ pos 274877906944)) ≡ a +ℤ pos 274877906944
  sum_same = to_z-of_z w64 (a +ℤ pos 274877906944) sum_fits

  pub held_add : SFits w64 (to_z w64 (of_z w64 a) +ℤ pos 274877906944)
  held_add = rw same sum_fits

  pub held_cast : T (non_neg (to_z w64 (of_z w64 (to_z w64 (of_z w64 a) +ℤ pos 274877906944)))) × Fits w64 (nat_abs (to_z w64 (of_z w64 (to_z w64 (of_z w64 a) +ℤ pos 274877906944))))
  held_cast = rw (same, sum_same) (biased_nat a 274877906944 (omega arith), record { fits = omega (arith, sum_small) })

  pub held_is : nat_abs (to_z w64 (of_z w64 (to_z w64 (of_z w64 a) +ℤ pos 274877906944))) ≡ held_numerator a
  unfolding held_numerator
  held_is = rw (same, sum_same)

-- ---- places in the bytes

pub place_there : (real : Bool) (w n i l : ℕ) → i < n → w + weight_length real * n ≤ l → w + weight_length real * i + weight_length real ≤ l
place_there real w n i l h k = omega (arith, mul-le-mul_left (weight_length real) h)
