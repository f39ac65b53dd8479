-- `hejslopi::filter` is safe, and saves what it may: an accepted output fits what was lent, and its front is the filtered still. Assumes nothing.
use native.Mathlib.Omega.{arith}
use mathlib.Core.Path.{sym}
use lib.Seq.{length-take-le}
use Rattle.program_filter.proofs.Saved.{length-fits, front_saves}
use Rattle.hejslopi.proofs.filter.Goals as goal

pub slice_bounds-out-end : goal.slice_bounds-out-end
slice_bounds-out-end g c =
    omega (arith, length-fits c.filter_still.ensures c.in_ok-picture.was)

pub slice_bounds-save-end : goal.slice_bounds-save-end
slice_bounds-save-end g c =
    sym (length-take-le _ _ (omega (arith, length-fits c.filter_still.ensures c.in_ok-picture.was)))

pub save-requires : goal.save-requires
save-requires g c =
    front_saves c.filter_still.ensures c.in_ok-picture.was
