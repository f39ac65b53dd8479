-- `buffers::copy_front` meets its contract: what is stored so far, then what was there. Assumes nothing.
use Rattle.std.proofs.Common.{refl}
use Rattle.lists.proofs.Stored.{stored_none, stored_more, stored_done}
use Rattle.lists.proofs.Tabulate.{tabulate-get_or}
use Rattle.buffers.proofs.copy_front.Goals as goal

pub loop-i-init : goal.loop-i-init
loop-i-init c =
    stored_none _ _ _

pub loop-i-preserved : goal.loop-i-preserved
loop-i-preserved c =
    stored_more c.loop-i.invariant c.requires.1 c.loop-i-test.true refl

pub returns : goal.returns
returns c =
    let a = c.args in
    rw (tabulate-get_or a.src.now 0 a.n c.requires.0) at (stored_done c.loop-i.invariant c.loop-i-test.false)
