-- `raster_means::add_samples` meets its contract: what is stored so far, then what was there. Assumes nothing.
use native.Mathlib.Omega.{arith}
use Rattle.lists.proofs.Stored.{stored_none, stored_more, stored_next, stored_done}
use Rattle.raster_means.proofs.add_samples.Goals as goal

pub loop-u-init : goal.loop-u-init
loop-u-init c =
    stored_none _ _ _

pub overflow_add-sums : goal.overflow_add-sums
overflow_add-sums c =
    let L = c.loop-u in
    omega (arith, stored_next 0 L.invariant, c.requires.2 L.u (omega arith), c.from.ensures)

pub loop-u-preserved : goal.loop-u-preserved
loop-u-preserved c =
    let L = c.loop-u in
    stored_more L.invariant c.requires.0 (omega arith) (rw (stored_next 0 L.invariant, c.from.ensures))

pub returns : goal.returns
returns c =
    stored_done c.loop-u.invariant (omega arith)
