-- `capi::hejslopi_read_still` meets its contract. Assumes nothing.
use Rattle.told.specs.Numbers.{still_told}
use Rattle.told.proofs.Alike.{told}
use Rattle.capi.proofs.hejslopi_read_still.Goals as goal

pub returns : goal.returns
returns c =
    told still_told c.read_still.ensures c.tell.ensures
