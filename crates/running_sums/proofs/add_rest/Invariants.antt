-- `running_sums::add_rest` meets its contract: what is stored so far, in a place apart from the row above. Assumes nothing.
use Rattle.std.proofs.Common.{◌≡◌, ◌+◌, ◌%◌, ◌^◌, get_or, take}
use Rattle.integers.specs.Sum.{sum}
use Rattle.lists.proofs.StoredAt.{stored}
use Rattle.running_sums.proofs.add_rest.Given as goal

abbrev pub invariant-loop-x : goal.invariant-loop-x
invariant-loop-x l = (l.running ≡ (l.total + sum (take l.x l.row)) % 2 ^ 32) × (l.sums ≡ stored (λ i. (get_or l.initial.sums (l.from + i) 0 + (l.total + sum (take i l.row))) % 2 ^ 32) l.initial.sums l.to l.x)
