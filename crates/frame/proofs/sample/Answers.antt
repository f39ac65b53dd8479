-- `frame::sample` meets its contract: a place inside is in the row; another is the border value's. Assumes nothing.
use native.Mathlib.Nat.{lt_of_lt_of_le}
use Rattle.model_laws.proofs.Border.{supply-inside}
use Rattle.frame.specs.Padded.{row_pick}
use Rattle.places.proofs.PlaceLaws.{place_some, place_none, place_inside}
use Rattle.frame.proofs.sample.Goals as goal

pub bounds-row-u : goal.bounds-row-u
bounds-row-u c =
    lt_of_lt_of_le (place_inside _ (supply-inside _ _ _ c.requires.0) c.in-Some.ensures) c.requires.2

pub returns-in-Some : goal.returns-in-Some
unfolding row_pick
returns-in-Some c =
    rw (place_some _ c.in-Some.ensures)

pub returns-in-None : goal.returns-in-None
unfolding row_pick
returns-in-None c =
    rw (place_none _ c.in-None.ensures)
