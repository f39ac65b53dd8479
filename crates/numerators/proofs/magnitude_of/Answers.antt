-- `numerators::magnitude_of` meets its contract. Assumes nothing.
use Rattle.std.proofs.Common.{arith}
use Rattle.numerators.specs.Numerator.{numerator_of}
use Rattle.integers.proofs.Parts.{abs_diff}
use Rattle.numerators.proofs.magnitude_of.Goals as goal

pub returns : goal.returns
unfolding numerator_of
returns c =
    omega (arith, abs_diff c.args.value 274877906944)
