-- `running_sums::join_pairs` meets its contract: what is stored so far, then what was there: both that are read. Assumes nothing.
use Rattle.std.proofs.Common.{◌+◌, get_or}
use Rattle.lists.proofs.Stored.{Stored}
use Rattle.running_sums.proofs.join_pairs.Given as goal

abbrev pub invariant-loop-x : goal.invariant-loop-x
invariant-loop-x l = Stored (λ i. get_or l.initial.dst i 0 + get_or l.initial.dst (i + 2) 0) l.n l.initial.dst l.dst l.x
