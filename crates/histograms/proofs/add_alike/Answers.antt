-- `histograms::add_alike` meets its contract: one count stored anew. Assumes nothing.
use native.Mathlib.Omega.{arith}
use mathlib.Core.Path.{refl}
use Rattle.histograms.proofs.Counts.{counted_alike}
use Rattle.histograms.proofs.Below.{alike_below, alike_not_below}
use Rattle.histograms.proofs.add_alike.Goals as goal

pub returns-then-sample-level : goal.returns-then-sample-level
returns-then-sample-level c =
    let a = c.args in
    (counted_alike a.sample a.many _ a.counts.now (omega arith) c.requires.1 refl, alike_below _ _ _ c.if-sample-level.true)

pub returns-else-sample-level : goal.returns-else-sample-level
returns-else-sample-level c =
    let a = c.args in
    (counted_alike a.sample a.many _ a.counts.now (omega arith) c.requires.1 refl, alike_not_below a.many a.sample a.level c.if-sample-level.false)
