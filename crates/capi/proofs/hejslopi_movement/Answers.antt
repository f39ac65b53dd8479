-- `capi::hejslopi_movement` meets its contract. Assumes nothing.
use Rattle.capi.proofs.Telling.{counts_movement}
use Rattle.capi.proofs.hejslopi_movement.Goals as goal

pub returns : goal.returns
returns c =
    counts_movement c.count_movement.ensures c.tell.ensures
