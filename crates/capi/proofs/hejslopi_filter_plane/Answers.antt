-- `capi::hejslopi_filter_plane` meets its contract. Assumes nothing.
use Rattle.capi.proofs.Telling.{filters_plane}
use Rattle.capi.proofs.hejslopi_filter_plane.Goals as goal

pub returns : goal.returns
returns c =
    filters_plane c.filter_plane.ensures c.tell.ensures
