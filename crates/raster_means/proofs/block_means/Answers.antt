-- `raster_means::block_means` meets its contract: what is stored so far, then what was there. Assumes nothing.
use native.Mathlib.Omega.{arith}
use Rattle.lists.proofs.Stored.{stored_none, stored_more, stored_done}
use Rattle.raster_means.proofs.block_means.Goals as goal

pub loop-u-init : goal.loop-u-init
loop-u-init c =
    stored_none _ _ _

pub mean-requires : goal.mean-requires
mean-requires c =
    let p = c.requires in
    (p.2, p.3, p.5 c.loop-u.u (omega arith), p.4)

pub loop-u-preserved : goal.loop-u-preserved
loop-u-preserved c =
    stored_more c.loop-u.invariant c.requires.1 (omega arith) c.mean.ensures

pub returns : goal.returns
returns c =
    stored_done c.loop-u.invariant (omega arith)
