-- `places::wrapped` meets its contract: 15 (n - 1) is -15 and a multiple of n. Assumes nothing.
use mathlib.Core.Path.{sym}
use Rattle.places.proofs.PlaceLaws.{wrap_any}
use Rattle.places.proofs.wrapped.Goals as goal

pub returns : goal.returns
returns c =
    sym (wrap_any _ _ c.requires.0)
