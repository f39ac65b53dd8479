-- `row_sums::start_at` meets its contract: what is stored so far, then what was there. Assumes nothing.
use Rattle.std.proofs.Common.{ℕ}
use Rattle.lists.proofs.Stored.{Stored}
use Rattle.row_sums.proofs.start_at.Given as goal

abbrev pub invariant-loop-u : goal.invariant-loop-u
invariant-loop-u g l = Stored (λ (_ : ℕ). l.value) l.n l.initial.sums l.sums l.u
