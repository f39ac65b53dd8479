-- `binomials::offsets` meets its contract. Assumes nothing.
use Prim.Native.Nat.{◌+◌, ◌*◌}
use native.Mathlib.Omega.{arith}
use mathlib.Core.Path.{refl}
use lib.ListN.{length-set}
use Rattle.lists.proofs.Tabulate.{fill_none, fill_more, filled_front}
use Rattle.binomials.proofs.offsets.Goals as goal

pub loop-k-init : goal.loop-k-init
loop-k-init c =
    (fill_none _ _, refl)

pub loop-k-preserved : goal.loop-k-preserved
loop-k-preserved c =
    let L = c.loop-k in
    (fill_more _ _ _ _ _ (omega (arith, L.invariant.1, c.requires)) L.invariant.0 refl, simp length-set L.invariant.1)

pub returns : goal.returns
returns c =
    let L = c.loop-k in
    (L.invariant.1, filled_front _ (2 * c.args.r + 1) L.k _ _ L.auto.k-end c.loop-k-test.false L.invariant.0)
