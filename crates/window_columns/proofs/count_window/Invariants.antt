-- `window_columns::count_window` meets its contract: the columns so far. Assumes nothing.
use mathlib.Core.Path.{◌≡◌}
use Rattle.histograms.specs.Histogram.{histogram}
use Rattle.window_columns.specs.Columns.{column_in, side_by_side}
use Rattle.window_columns.proofs.count_window.Given as goal

abbrev pub invariant-loop-i : goal.invariant-loop-i
invariant-loop-i l = l.counts ≡ histogram (side_by_side (column_in l.frame l.plane l.rows l.down) l.x l.i)
