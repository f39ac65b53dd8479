-- `histograms::up_to` meets its contract: what is below a level is the sum of the counts before it, and less than p. Assumes nothing.
use Prim.Native.Nat.{◌-◌, ◌≤◌, ◌<◌}
use mathlib.Core.Path.{◌≡◌}
use lib.ListN.{get_or}
use Rattle.histograms.specs.Histogram.{total}
use Rattle.histograms.proofs.up_to.Given as goal

abbrev pub invariant-loop-below : goal.invariant-loop-below
invariant-loop-below l = (l.below ≡ total l.counts l.level) × (l.below < l.p) × (l.here ≡ get_or l.counts l.level 0) × (l.here ≤ 4294967295) × (l.level ≤ 255)

abbrev pub decreases-loop-below : goal.decreases-loop-below
decreases-loop-below l = 255 - l.level
