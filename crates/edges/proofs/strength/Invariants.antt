-- `edges::strength` meets its contract: kernel by kernel. Assumes nothing.
use Rattle.edges.proofs.Responses.{Strongest}
use Rattle.edges.proofs.strength.Given as goal

abbrev pub invariant-loop-kernel : goal.invariant-loop-kernel
invariant-loop-kernel l = Strongest l.square l.kernel-index l.most
