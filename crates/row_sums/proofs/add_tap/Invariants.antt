-- `row_sums::add_tap` meets its contract: what is stored so far, then what was there. Assumes nothing.
use Rattle.std.proofs.Common.{get_or}
use Rattle.lists.proofs.Stored.{Stored}
use Rattle.row_sums.proofs.add_tap.Given as goal

abbrev pub invariant-loop-u : goal.invariant-loop-u
invariant-loop-u g l = let t = g.T.Tally in Stored (λ k. t.added (get_or l.initial.sums k t.none) l.weight (get_or l.row k t.blank)) l.n l.initial.sums l.sums l.u
