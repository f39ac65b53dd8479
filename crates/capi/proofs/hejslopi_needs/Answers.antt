-- `capi::hejslopi_needs` meets its contract. Assumes nothing.
use Rattle.told.specs.Numbers.{needs_told}
use Rattle.told.proofs.Alike.{told}
use Rattle.capi.proofs.hejslopi_needs.Goals as goal

pub returns : goal.returns
returns c =
    told needs_told c.needs.ensures c.tell.ensures
