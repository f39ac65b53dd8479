-- `spare_units::unit_of` meets its contract. Assumes nothing.
use Rattle.std.proofs.Common.{◌∙◌, arith}
use Rattle.spare_units.proofs.Bit.{bit-is, bit_le}
use Rattle.spare_units.proofs.unit_of.Goals as goal

pub returns : goal.returns
returns c =
    (omega (arith, c.from.ensures, bit_le), rw (← c.ahead.ensures) (c.from.ensures ∙ bit-is _))
