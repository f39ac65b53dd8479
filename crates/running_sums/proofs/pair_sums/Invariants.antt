-- `running_sums::pair_sums` meets its contract: what is stored so far, then what was there. Assumes nothing.
use Rattle.std.proofs.Common.{◌+◌, get_or}
use Rattle.lists.proofs.Stored.{Stored}
use Rattle.running_sums.proofs.pair_sums.Given as goal

abbrev pub invariant-loop-x : goal.invariant-loop-x
invariant-loop-x l = Stored (λ i. get_or l.row i 0 + get_or l.row (i + 1) 0) l.n l.initial.dst l.dst l.x
