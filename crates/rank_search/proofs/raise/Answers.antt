-- `rank_search::raise` meets its contract: what is stored so far, then what was there. Assumes nothing.
use Rattle.lists.proofs.Stored.{stored_none, stored_more, stored_next}
use Rattle.rank_search.proofs.raise.Goals as goal

pub loop-u-init : goal.loop-u-init
loop-u-init c =
    stored_none _ _ _

pub raised-requires : goal.raised-requires
raised-requires c =
    let L = c.loop-u in
    rw (stored_next 0 L.invariant) (c.requires.2 L.u c.loop-u-test.true)

pub loop-u-preserved : goal.loop-u-preserved
loop-u-preserved c =
    let L = c.loop-u in
    stored_more L.invariant c.requires.1 c.loop-u-test.true (rw (stored_next 0 L.invariant) at c.raised.ensures)
