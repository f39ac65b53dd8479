-- `running_sums::pair_sums` meets its contract: what is stored so far, then what was there. Assumes nothing.
use Rattle.lists.proofs.Stored.{stored_none, stored_more, stored_done}
use Rattle.running_sums.proofs.pair_sums.Goals as goal

pub loop-x-init : goal.loop-x-init
loop-x-init c =
    stored_none _ _ _

pub loop-x-preserved : goal.loop-x-preserved
loop-x-preserved c =
    stored_more c.loop-x.invariant c.requires.1 c.loop-x-test.true c.plus.ensures

pub returns : goal.returns
returns c =
    stored_done c.loop-x.invariant c.loop-x-test.false
