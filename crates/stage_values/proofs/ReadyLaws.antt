-- What is known of an axis that is ready. Assumes nothing.
use Prim.Native.Nat.{◌≤◌}
use native.Mathlib.Omega.{arith}
use Rattle.lists.proofs.Count.{count-length}
use Rattle.model.specs.Kernel.{Kernel}
use Rattle.model.specs.Apportion.{rounded, rounded_taps}
use Rattle.stage_values.specs.declared.Axis.{Axis}
use Rattle.stage_values.specs.Ready.{Ready}

-- no more weights are rounded than there are taps
pub rounded_few : {K : Kernel} {axis : Axis} → Ready K axis → axis.rounded ≤ 31
unfolding rounded_taps
rounded_few {K} r = omega (arith, r.rounded, count-length (rounded K.divisor) K.taps, r.count, r.few)
