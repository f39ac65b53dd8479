-- `weighted::reach_of` meets its contract: what the offsets so far reach. Assumes nothing.
use Prim.Native.Nat.{ℕ}
use native.Mathlib.Nat.{le_antisymm}
use native.Mathlib.Omega.{arith}
use mathlib.Core.Path.{subst}
use Rattle.tap_sums.specs.HeldSums.{Reaches}
use Rattle.weighted.proofs.Reaching.{reaches_none, reaches_more}
use Rattle.weighted.proofs.reach_of.Goals as goal

pub loop-k-init : goal.loop-k-init
loop-k-init c =
    reaches_none _

pub loop-k-preserved : goal.loop-k-preserved
loop-k-preserved c =
    let a = c.args in
    let L = c.loop-k in
    reaches_more a.axis.taps.offsets L.k L.first L.last _ _ L.invariant (a.axis.light.near L.k c.loop-k-test.true) (grind (arith, c.min-first.ensures)) (grind (arith, c.max-last.ensures))

pub returns : goal.returns
returns c =
    subst (λ (n : ℕ). Reaches c.args.axis.taps.offsets n c.loop-k.first c.loop-k.last) (le_antisymm c.loop-k.auto.k-end c.loop-k-test.false) c.loop-k.invariant
