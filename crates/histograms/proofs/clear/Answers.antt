-- `histograms::clear` meets its contract: 256 zeros. Assumes nothing.
use Rattle.histograms.proofs.Counts.{zeros}
use borrow.Author.Rules.{rules}
use Rattle.histograms.proofs.clear.Goals as goal

pub returns : goal.returns
returns c =
    zeros _ _ c.requires (c.fill.ensures.after (λ y e. search rules))
