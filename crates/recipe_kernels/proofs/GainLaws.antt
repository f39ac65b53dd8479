-- The gains of a stage of weights, and the limits that its kernels keep to. Assumes nothing.
use Prim.Native.Nat.{ℕ, zero, suc, ◌*◌, ◌≤◌, ◌<◌}
use native.Mathlib.Omega.{arith}
use mathlib.Core.Path.{◌≡◌, sym, subst}
use mathlib.Core.Bool.{Bool}
use mathlib.Core.List.{List}
use borrow.Author.Tests.{leb-true}
use Rattle.refusals.specs.Refusal.{verdict}
use Rattle.std.specs.Prelude.{Ok}
use Rattle.refusals.proofs.Passed.{all_pass, all_append, passed_all}
use Rattle.model.specs.Kernel.{Kernel, Rising, magnitude, kernel}
use Rattle.kernels.specs.Kernel.{kernel_of, Limits}
use Rattle.recipe_bytes.specs.Bytes.{at}
use Rattle.tap_fields.specs.TapFields.{tap_tests}
use Rattle.taps.specs.Held.{Holds}
use Rattle.gain_tests.specs.Gain.{gain_test}
use Rattle.gain_tests.specs.Kept.{Kept}
use Rattle.recipe_kernels.specs.Kernels.{kernel_on, gain_tests, weighted_tests}
use Rattle.recipe_kernels.proofs.AxisLaws.{axis_rising}

pub taps_part : (real : Bool) (b : List ℕ) → verdict (weighted_tests real b) ≡ Ok tt → verdict (tap_tests real b) ≡ Ok tt
unfolding weighted_tests
taps_part real b e = passed_all (tap_tests real b) (all_append (tap_tests real b) (gain_tests real b) (all_pass (weighted_tests real b) e)).0

module _ {offsets values : List ℕ} {n D : ℕ} where
  limits : {K : Kernel} → Holds offsets values n D K → Kept values n D → Rising K.taps → magnitude K.taps ≤ 4 * K.divisor → Limits D offsets values n
  unfolding kernel_of kernel
  limits h k r g = record {
    some = k.some;
    few = k.low;
    taps = k.few;
    offsets-fit = omega (arith, h.offsets-fit, k.few);
    numerators-fit = k.fit;
    gain = subst (λ (K : Kernel). magnitude K.taps ≤ 4 * K.divisor) (sym h.is) g;
    rising = subst (λ (K : Kernel). Rising K.taps) (sym h.is) r;
    near = h.offsets-near;
  }

module _ (real : Bool) (b : List ℕ) (e : verdict (weighted_tests real b) ≡ Ok tt) where
  -- no gain passes 4
  pub gain_within : (axis : ℕ) → axis ≤ 1 → magnitude (kernel_on real axis b).taps ≤ 4 * (kernel_on real axis b).divisor
  unfolding weighted_tests gain_tests gain_test
  gain_within zero l = leb-true _ _ (all_append (tap_tests real b) (gain_tests real b) (all_pass (weighted_tests real b) e)).1.0
  gain_within (suc zero) l = leb-true _ _ (all_append (tap_tests real b) (gain_tests real b) (all_pass (weighted_tests real b) e)).1.1.0
  gain_within (suc (suc k)) l = absurd (omega (arith, l))

module _ (real : Bool) (b : List ℕ) (bytes : (i : ℕ) → at b i < 256) (e : verdict (weighted_tests real b) ≡ Ok tt) where
  pub axis_limits : (axis : ℕ) → axis ≤ 1 → {offsets values : List ℕ} {n D : ℕ} → Holds offsets values n D (kernel_on real axis b) → Kept values n D → Limits D offsets values n
  axis_limits axis l h k = limits h k (axis_rising real b bytes (taps_part real b e) axis l) (gain_within real b e axis l)
