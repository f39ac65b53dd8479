-- `rank_search::raise` meets its contract: what is stored so far, then what was there. Assumes nothing.
use Prim.Native.Nat.{◌+◌}
use mathlib.Core.Bool.{cond}
use lib.Dec.{ltb}
use lib.ListN.{get_or}
use Rattle.lists.proofs.Stored.{Stored}
use Rattle.rank_search.proofs.raise.Given as goal

abbrev pub invariant-loop-u : goal.invariant-loop-u
invariant-loop-u l = Stored (λ k. cond (ltb (get_or l.seen k 0) l.p) (get_or l.initial.low k 0 + l.half) (get_or l.initial.low k 0)) l.w l.initial.low l.low l.u
