-- `histograms::take_alike` meets its contract: one count stored anew. Assumes nothing.
use Prim.Native.Nat.{◌-◌}
use lib.ListN.{get_or}
use native.Mathlib.Omega.{arith}
use Rattle.histograms.proofs.Counts.{taken_alike}
use Rattle.histograms.proofs.Below.{alike_below, alike_not_below}
use Rattle.histograms.proofs.take_alike.Goals as goal

pub returns-then-sample-level : goal.returns-then-sample-level
returns-then-sample-level c =
    let a = c.args in
    (taken_alike a.sample a.many (get_or a.counts.now a.sample 0 - a.many) a.counts.now (omega arith) c.requires.1 (omega (arith, c.requires.2)), alike_below _ _ _ c.if-sample-level.true)

pub returns-else-sample-level : goal.returns-else-sample-level
returns-else-sample-level c =
    let a = c.args in
    (taken_alike a.sample a.many (get_or a.counts.now a.sample 0 - a.many) a.counts.now (omega arith) c.requires.1 (omega (arith, c.requires.2)), alike_not_below a.many a.sample a.level c.if-sample-level.false)
