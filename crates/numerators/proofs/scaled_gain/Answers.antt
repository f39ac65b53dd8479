-- `numerators::scaled_gain` meets its contract. Assumes nothing.
use Rattle.integers.specs.Divide.{ceil_div}
use borrow.Author.Rules.{rules}
use Rattle.numerators.proofs.scaled_gain.Goals as goal

pub returns : goal.returns
unfolding ceil_div
returns c =
    search rules
