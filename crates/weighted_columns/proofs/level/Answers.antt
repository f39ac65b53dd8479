-- `weighted_columns::level` meets its contract: a shift rounds down, and what is clamped fits. Assumes nothing.
use Rattle.std.proofs.Common.{arith}
use Rattle.integers.specs.Divide.{clamp}
use Rattle.std.proofs.lemmas.Int.{ints, clamps}
use Rattle.weighted_columns.proofs.level.Goals as goal

pub returns : goal.returns
unfolding clamp
returns c =
    grind (arith, ints, clamps)
