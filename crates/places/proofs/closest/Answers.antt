-- `places::closest` meets its contract: wherever the place is. Assumes nothing.
use mathlib.Core.Path.{sym}
use Rattle.places.proofs.PlaceLaws.{nearest_any}
use Rattle.places.proofs.closest.Goals as goal

pub returns : goal.returns
returns c =
    rw (c.min.ensures, c.saturating_sub.ensures) (sym (nearest_any _ _))
