-- `rank_search::tally_window` meets its contract: row by row. Assumes nothing.
use Prim.Native.Nat.{◌+◌}
use mathlib.Core.Path.{◌≡◌}
use mathlib.Core.List.{◌++◌}
use lib.ListN.{get_or, drop}
use Rattle.lists.specs.Tabulate.{tabulate}
use Rattle.rank_search.proofs.Counts.{over_rows}
use Rattle.rank_search.proofs.tally_window.Given as goal

abbrev pub invariant-loop-j : goal.invariant-loop-j
invariant-loop-j l = l.seen ≡ tabulate (over_rows l.rows l.initial.seen (λ u. get_or l.low u 0 + l.step) l.w l.r l.j) l.w ++ drop l.w l.initial.seen
