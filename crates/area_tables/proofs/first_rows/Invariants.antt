-- `area_tables::first_rows` meets its contract: rows 0 to k are held. Assumes nothing.
use mathlib.Core.Path.{◌≡◌}
use Rattle.table_sizes.specs.Ring.{row_start}
use Rattle.area_tables.specs.HeldTable.{HeldTable}
use Rattle.area_tables.proofs.first_rows.Given as goal

abbrev pub invariant-loop-k : goal.invariant-loop-k
invariant-loop-k l = (l.at ≡ row_start l.frame.width l.window.r l.window.s l.k) × HeldTable l.frame l.window.r l.window.s l.plane l.k l.sums
