-- `rank_search::tally` meets its contract: what is stored so far, then what was there. Assumes nothing.
use mathlib.Core.Path.{◌∙◌}
use Rattle.lists.proofs.Stored.{stored_none, stored_more, stored_next}
use Rattle.rank_search.proofs.tally.Goals as goal

pub loop-u-init : goal.loop-u-init
loop-u-init c =
    stored_none _ _ _

pub plus-requires : goal.plus-requires
plus-requires c =
    let L = c.loop-u in
    rw (stored_next 0 L.invariant) (c.requires.4 L.u c.loop-u-test.true)

pub loop-u-preserved : goal.loop-u-preserved
loop-u-preserved c =
    let L = c.loop-u in
    stored_more L.invariant c.requires.2 c.loop-u-test.true (c.plus.ensures ∙ rw (stored_next 0 L.invariant))
