-- `weighted::reach_of` meets its contract: what the offsets so far reach. Assumes nothing.
use Rattle.tap_sums.specs.HeldSums.{Reaches}
use Rattle.weighted.proofs.reach_of.Given as goal

abbrev pub invariant-loop-k : goal.invariant-loop-k
invariant-loop-k l = Reaches l.axis.taps.offsets l.k l.first l.last
