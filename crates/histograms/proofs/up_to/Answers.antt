-- `histograms::up_to` meets its contract: what is below a level is the sum of the counts before it, and less than p. Assumes nothing.
use native.Mathlib.Omega.{arith}
use Rattle.histograms.proofs.Below.{total_more, total_room}
use Rattle.histograms.proofs.up_to.Goals as goal

pub overflow_add-level : goal.overflow_add-level
overflow_add-level c =
    let L = c.loop-below in
    omega (arith, total_room c.args.counts.now L.level c.args.p L.invariant.4 (omega (arith, L.invariant, c.loop-below-test.true)) c.requires.2)

pub loop-below-smaller : goal.loop-below-smaller
loop-below-smaller c =
    let L = c.loop-below in
    omega (arith, total_room c.args.counts.now L.level c.args.p L.invariant.4 (omega (arith, L.invariant, c.loop-below-test.true)) c.requires.2)

pub loop-below-preserved : goal.loop-below-preserved
loop-below-preserved c =
    let L = c.loop-below in
    let room = total_room c.args.counts.now L.level c.args.p L.invariant.4 (omega (arith, L.invariant, c.loop-below-test.true)) c.requires.2 in
    (omega (arith, total_more c.args.counts.now L.level, L.invariant), c.loop-below-test.true, c.count_of-here-in-loop-below.ensures.0, c.count_of-here-in-loop-below.ensures.1, omega (arith, room))
