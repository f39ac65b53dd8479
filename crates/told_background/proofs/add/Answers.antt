-- `told_background::add` meets its contract. Assumes nothing.
use Rattle.told_background.proofs.Telling.{changes}
use Rattle.told_background.proofs.add.Goals as goal

pub returns : goal.returns
returns c =
    changes (rw c.held-holds.ensures at c.add_still.ensures) c.tell.ensures
