-- `edges::response_of` meets its contract: weight by weight. Assumes nothing.
use Rattle.edges.proofs.Responses.{Summed}
use Rattle.edges.proofs.response_of.Given as goal

abbrev pub invariant-loop-i : goal.invariant-loop-i
invariant-loop-i l = Summed l.kernel l.square l.i l.sum
