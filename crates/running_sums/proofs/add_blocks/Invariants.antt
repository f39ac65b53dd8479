-- `running_sums::add_blocks` meets its contract: four entries a turn, in a place apart from the row above. Assumes nothing.
use Rattle.std.proofs.Common.{◌≡◌, ℕ, ◌+◌, ◌*◌, ◌%◌, ◌^◌, ◌<◌, get_or, take}
use Rattle.integers.specs.Sum.{sum}
use Rattle.lists.proofs.StoredAt.{stored}
use Rattle.running_sums.specs.Fours.{lane}
use Rattle.running_sums.proofs.add_blocks.Given as goal

abbrev pub invariant-loop-k : goal.invariant-loop-k
invariant-loop-k l = ((i : ℕ) → i < 4 → lane l.t i ≡ sum (take (4 * l.k + i) l.row) % 2 ^ 32)
    × (l.sums ≡ stored (λ i. (get_or l.initial.sums (l.from + i) 0 + sum (take i l.row)) % 2 ^ 32) l.initial.sums l.to (4 * l.k))
