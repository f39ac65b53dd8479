-- Offsets and coefficients as the code holds them are the binomial kernel, which is within the limits. Assumes nothing.
use Prim.Native.Nat.{ℕ, zero, suc, ◌+◌, ◌-◌, ◌*◌, ◌%◌, ◌^◌, ◌≤◌}
use native.Mathlib.Nat.{mod-eq_of_lt, one-le-pow}
use native.Mathlib.Omega.{arith}
use mathlib.Core.Path.{◌≡◌, refl, sym, ap, ◌∙◌}
use mathlib.Core.List.{List}
use lib.ListN.{length, take}
use lib.IntN.{ℤ, pos, ◌-ℤ◌}
use lib.Pow.{pow_mono}
use Rattle.integers.specs.Sum.{sum, sumℤ}
use Rattle.integers.proofs.Parts.{pos_part, parts_ext, sub_parts}
use Rattle.lists.specs.Tabulate.{tabulate}
use Rattle.lists.proofs.Tabulate.{entry_known, tabulate_ext}
use Rattle.model.specs.Kernel.{tap, kernel, total, magnitude}
use Rattle.model.specs.Binomial.{choose, binomial}
use Rattle.model_laws.proofs.Binomial.{binomial_rising, binomial-total}
use Rattle.stage_values.specs.Place.{offset_of}
use Rattle.numerators.specs.Numerator.{numerator_of}
use Rattle.kernels.specs.Kernel.{tap_of, kernel_of, Limits}

-- the shift loses nothing
pub power : (r : ℕ) → r ≤ 15 → 1 * 2 ^ (2 * r) % 18446744073709551616 ≡ 2 ^ (2 * r)
power r h = mod-eq_of_lt (omega (arith, pow_mono {i = 2 * r} {j = 30} (omega arith))) ∙ omega arith

-- no weight is below 0
magnitude-total : (o : ℕ → ℤ) (g : ℕ → ℕ) (n : ℕ) → total (tabulate (λ k. tap (o k) (pos (g k))) n) ≡ pos (magnitude (tabulate (λ k. tap (o k) (pos (g k))) n))
unfolding magnitude total sum sumℤ tabulate tap
magnitude-total o g zero = refl
magnitude-total o g (suc n) = rw (magnitude-total (λ k. o (suc k)) (λ k. g (suc k)) n)

pub binomial-magnitude : (r : ℕ) → magnitude (binomial r).taps ≡ 2 ^ (2 * r)
unfolding binomial kernel
binomial-magnitude r = ap pos_part (sym (magnitude-total (λ k. pos k -ℤ pos r) (λ k. choose (2 * r) k) (2 * r + 1)) ∙ binomial-total r)

-- the two biases cancel
tap-is : (r k c : ℕ) → r ≤ 15 → tap (offset_of (15 + k - r)) (numerator_of (2 ^ 38 + c)) ≡ tap (pos k -ℤ pos r) (pos c)
unfolding offset_of numerator_of
tap-is r k c h =
    rw (parts_ext (pos (15 + k - r) -ℤ pos 15) (pos k -ℤ pos r) (omega (arith, sub_parts (pos (15 + k - r)) (pos 15), sub_parts (pos k) (pos r))))
    (ap (tap (pos k -ℤ pos r)) (parts_ext (pos (2 ^ 38 + c) -ℤ pos (2 ^ 38)) (pos c) (omega (arith, sub_parts (pos (2 ^ 38 + c)) (pos (2 ^ 38))))))

module _ (r : ℕ) (h : r ≤ 15) (offsets values : List ℕ)
    (o : take (2 * r + 1) offsets ≡ tabulate (λ k. 15 + k - r) (2 * r + 1))
    (v : take (2 * r + 1) values ≡ tabulate (λ k. 2 ^ 38 + choose (2 * r) k) (2 * r + 1)) where
  taps_are : tabulate (tap_of offsets values) (2 * r + 1) ≡ (binomial r).taps
  unfolding tap_of binomial kernel
  taps_are = tabulate_ext _ _ (2 * r + 1) (λ k l. rw (entry_known _ offsets (2 * r + 1) k 0 o l, entry_known _ values (2 * r + 1) k 0 v l) (tap-is r k (choose (2 * r) k) h))

  pub kernel-is : kernel_of (2 ^ (2 * r)) offsets values (2 * r + 1) ≡ binomial r
  unfolding kernel_of binomial kernel
  kernel-is = ap (kernel (2 ^ (2 * r))) taps_are

  pub limits : 31 ≡ length offsets → 31 ≡ length values → Limits (2 ^ (2 * r)) offsets values (2 * r + 1)
  limits p q = record {
    some = one-le-pow (2 * r) 2 (omega arith);
    few = pow_mono {i = 2 * r} {j = 35} (omega arith);
    taps = omega arith;
    offsets-fit = omega arith;
    numerators-fit = omega arith;
    gain = rw taps_are (omega (arith, binomial-magnitude r));
    rising = rw taps_are (binomial_rising r);
    near = λ k l. rw (entry_known _ offsets (2 * r + 1) k 0 o l) (omega arith);
  }
