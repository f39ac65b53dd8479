-- `motion_counts::count_motions` meets its contract: the counts so far are those of the motions so far. Assumes nothing.
use Prim.Native.Nat.{◌+◌}
use native.Mathlib.Omega.{arith}
use mathlib.Core.Path.{refl}
use Rattle.lists.specs.Tabulate.{tabulate}
use Rattle.lists.specs.Count.{count}
use Rattle.model.specs.Within.{distance}
use Rattle.motion_counts.proofs.Tally.{tally_fits, moved_more, still-more, tallied}
use Rattle.motion_counts.proofs.count_motions.Goals as goal

pub loop-i-init : goal.loop-i-init
unfolding count tabulate
loop-i-init c =
    (refl, refl, omega arith)

pub overflow_add-d : goal.overflow_add-d
unfolding distance
overflow_add-d c =
    let i = c.loop-i.i in
    record { fits = omega (arith, c.apart-d.ensures, (c.type_inv.first i).fits, (c.type_inv.second i).fits) }

pub loop-i-preserved : goal.loop-i-preserved
loop-i-preserved c =
    let a = c.args in
    let L = c.loop-i in
    let m = moved_more a.limit a.tolerance1 a.tolerance2 a.first.now a.second.now L.i c.apart-d.ensures L.invariant.0 c.from-moved.ensures in
    let s = still-more a.limit a.tolerance1 a.tolerance2 a.first.now a.second.now L.i c.apart-d.ensures L.invariant.1 c.from-still.ensures in
    (m, s, omega (arith, m, s, tally_fits a.limit a.tolerance1 a.tolerance2 a.first.now a.second.now (L.i + 1)))

pub returns : goal.returns
returns c =
    let a = c.args in
    let L = c.loop-i in
    tallied a.limit a.tolerance1 a.tolerance2 a.first.now a.second.now (omega arith) c.loop-i-test.false L.invariant.0 L.invariant.1
