-- `exact_boxes::first_columns` meets its contract: row by row. Assumes nothing.
use Prim.Native.Nat.{◌+◌, ◌-◌}
use mathlib.Core.Path.{◌≡◌}
use mathlib.Core.List.{◌++◌}
use lib.ListN.{drop}
use Rattle.lists.specs.Tabulate.{tabulate}
use Rattle.exact_boxes.proofs.ColumnLaws.{rows_sum}
use Rattle.exact_boxes.proofs.first_columns.Given as goal

abbrev pub invariant-loop-j : goal.invariant-loop-j
invariant-loop-j l = l.sums ≡ tabulate (rows_sum l.frame l.plane (15 - l.s) l.j) (l.frame.width + 30) ++ drop (l.frame.width + 30) l.initial.sums
