-- `rank_search::tally` meets its contract: what is stored so far, then what was there. Assumes nothing.
use Prim.Native.Nat.{◌+◌}
use mathlib.Core.Bool.{cond}
use lib.Dec.{leb}
use lib.ListN.{get_or}
use Rattle.lists.proofs.Stored.{Stored}
use Rattle.rank_search.proofs.tally.Given as goal

abbrev pub invariant-loop-u : goal.invariant-loop-u
invariant-loop-u l = Stored (λ k. get_or l.initial.seen k 0 + cond (leb (get_or l.row k 0) (get_or l.low k 0 + l.step)) 1 0) l.w l.initial.seen l.seen l.u
