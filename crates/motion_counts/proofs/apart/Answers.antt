-- `motion_counts::apart` meets its contract: how far two numbers are apart is their distance. Assumes nothing.
use borrow.Author.Rules.{rules}
use Rattle.model.specs.Within.{distance}
use Rattle.motion_counts.proofs.apart.Goals as goal

pub returns : goal.returns
unfolding distance
returns c = search rules
