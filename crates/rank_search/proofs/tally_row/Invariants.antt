-- `rank_search::tally_row` meets its contract: sample by sample. Assumes nothing.
use Prim.Native.Nat.{◌+◌}
use mathlib.Core.Path.{◌≡◌}
use mathlib.Core.List.{◌++◌}
use lib.ListN.{get_or, drop}
use Rattle.lists.specs.Tabulate.{tabulate}
use Rattle.rank_search.proofs.Counts.{with_row}
use Rattle.rank_search.proofs.tally_row.Given as goal

abbrev pub invariant-loop-i : goal.invariant-loop-i
invariant-loop-i l = l.seen ≡ tabulate (with_row l.initial.seen (λ u. get_or l.low u 0 + l.step) l.row l.i) l.w ++ drop l.w l.initial.seen
