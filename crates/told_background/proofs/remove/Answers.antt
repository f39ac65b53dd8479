-- `told_background::remove` meets its contract. Assumes nothing.
use Rattle.told_background.proofs.Telling.{changes}
use Rattle.told_background.proofs.remove.Goals as goal

pub returns : goal.returns
returns c =
    changes (rw c.held-holds.ensures at c.remove_still.ensures) c.tell.ensures
