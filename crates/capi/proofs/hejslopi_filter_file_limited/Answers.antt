-- `capi::hejslopi_filter_file_limited` meets its contract. Assumes nothing.
use Rattle.capi.proofs.Telling.{filters_file}
use Rattle.capi.proofs.hejslopi_filter_file_limited.Goals as goal

pub returns : goal.returns
returns c =
    filters_file c.filter_file.ensures c.tell.ensures
