-- `histograms::down_to` meets its contract: what is below a level is the sum of the counts before it. Assumes nothing.
use mathlib.Core.Path.{◌≡◌}
use Rattle.histograms.specs.Histogram.{total}
use Rattle.histograms.proofs.down_to.Given as goal

abbrev pub invariant-loop-below : goal.invariant-loop-below
invariant-loop-below l = l.below ≡ total l.counts l.level

abbrev pub decreases-loop-below : goal.decreases-loop-below
decreases-loop-below l = l.level
