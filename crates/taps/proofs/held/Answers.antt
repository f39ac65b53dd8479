-- `taps::held` meets its contract. Assumes nothing.
use Rattle.taps.proofs.Numerators.{held_add, held_cast, held_is}
use Rattle.taps.proofs.held.Goals as goal

pub overflow_add-result : goal.overflow_add-result
overflow_add-result c =
    held_add c.args.a c.requires

pub overflow_cast-result : goal.overflow_cast-result
overflow_cast-result c =
    held_cast c.args.a c.requires

pub returns : goal.returns
returns c =
    held_is c.args.a c.requires
