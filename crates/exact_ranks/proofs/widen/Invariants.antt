-- `exact_ranks::widen` meets its contract: what is stored so far, then what was there. Assumes nothing.
use lib.ListN.{get_or}
use lib.IntN.{pos}
use Rattle.lists.proofs.Stored.{Stored}
use Rattle.exact_ranks.proofs.widen.Given as goal

abbrev pub invariant-loop-u : goal.invariant-loop-u
invariant-loop-u l = Stored (λ k. pos (get_or l.levels k 0)) l.w l.initial.wide l.wide l.u
