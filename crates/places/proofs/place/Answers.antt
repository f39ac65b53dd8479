-- `places::place` meets its contract: each border by its own function. Assumes nothing.
use mathlib.Core.Path.{ap}
use Rattle.std.proofs.Common.{Some}
use Rattle.model.specs.Border.{supply}
use Rattle.places.specs.Supplied.{place_of}
use Rattle.places.proofs.place.Goals as goal

pub returns-in-Constant : goal.returns-in-Constant
returns-in-Constant c =
    rw c.in-Constant.is c.inside.ensures

pub returns-in-Nearest : goal.returns-in-Nearest
unfolding supply place_of
returns-in-Nearest c =
    rw c.in-Nearest.is (ap Some c.closest.ensures)

pub returns-in-Mirror : goal.returns-in-Mirror
unfolding supply place_of
returns-in-Mirror c =
    rw c.in-Mirror.is (ap Some c.mirrored.ensures)

pub returns-in-Wrap : goal.returns-in-Wrap
unfolding supply place_of
returns-in-Wrap c =
    rw c.in-Wrap.is (ap Some c.wrapped.ensures)
