-- `capi::hejslopi_write_still` meets its contract. Assumes nothing.
use Rattle.capi.proofs.Telling.{writes}
use Rattle.capi.proofs.hejslopi_write_still.Goals as goal

pub returns : goal.returns
returns c =
    writes c.write_still.ensures c.tell.ensures
