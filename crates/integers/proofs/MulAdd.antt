-- A sum and one product more, on signed machine numbers of any width: the sizes leave room. Assumes nothing.
use Prim.Native.Nat.{ℕ, ◌+◌, ◌*◌, ◌<◌, ◌^◌}
use native.Mathlib.Omega.{arith}
use mathlib.Core.Path.{◌≡◌}
use lib.IntN.{ℤ, nat_abs, ◌+ℤ◌, ◌*ℤ◌}
use mir.Syntax.{Width}
use mir.Val.{to_z, of_z, SFits, hbits}
use Rattle.integers.proofs.Parts.{abs_add, abs_mul}
use Rattle.integers.proofs.Machine.{abs_fits}
use Rattle.integers.proofs.Registers.{Bits, add-fits, add-bits, mul-fits, mul-bits}

module _ {w : Width} {l m n : ℕ} {sum weight value : ℤ} (p : Bits w l sum) (q : Bits w m weight) (r : Bits w n value)
    (room : nat_abs sum + nat_abs weight * nat_abs value < 2 ^ hbits w) where
  product : SFits w (weight *ℤ value)
  product = abs_fits w _ (omega (arith, room, abs_mul weight value))

  whole : SFits w (sum +ℤ weight *ℤ value)
  whole = abs_fits w _ (omega (arith, room, abs_add sum (weight *ℤ value), abs_mul weight value))

  pub product_fits : SFits w (to_z w m *ℤ to_z w n)
  product_fits = mul-fits q r product

  pub sum_fits : SFits w (to_z w l +ℤ to_z w (of_z w (to_z w m *ℤ to_z w n)))
  sum_fits = add-fits p (mul-bits q r product) whole

  pub sum_is : to_z w (of_z w (to_z w l +ℤ to_z w (of_z w (to_z w m *ℤ to_z w n)))) ≡ sum +ℤ weight *ℤ value
  sum_is = (add-bits p (mul-bits q r product) whole).is
