-- `told_background::mean` meets its contract. Assumes nothing.
use Rattle.told_background.proofs.Telling.{means}
use Rattle.told_background.proofs.mean.Goals as goal

pub returns : goal.returns
returns c =
    means (rw c.held-holds.ensures at c.mean_still.ensures) c.tell.ensures
