-- `buffers::copy_front` meets its contract: what is stored so far, then what was there. Assumes nothing.
use Rattle.std.proofs.Common.{ℕ}
use lib.ListN.{get_or}
use Rattle.lists.proofs.Stored.{Stored}
use Rattle.buffers.proofs.copy_front.Given as goal

abbrev pub invariant-loop-i : goal.invariant-loop-i
invariant-loop-i l = Stored (λ (k : ℕ). get_or l.src k 0) l.n l.initial.dst l.dst l.i
