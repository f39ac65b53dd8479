-- `row_sums::start_at` meets its contract: what is stored so far, then what was there. Assumes nothing.
use Rattle.std.proofs.Common.{refl}
use Rattle.lists.proofs.Stored.{stored_none, stored_more, stored_done}
use Rattle.row_sums.proofs.start_at.Goals as goal

pub loop-u-init : goal.loop-u-init
loop-u-init g c =
    stored_none _ _ _

pub loop-u-preserved : goal.loop-u-preserved
loop-u-preserved g c =
    stored_more c.loop-u.invariant c.requires c.loop-u-test.true refl

pub returns : goal.returns
returns g c =
    stored_done c.loop-u.invariant c.loop-u-test.false
