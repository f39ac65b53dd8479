-- `window_columns::place_rows` meets its contract: the starts so far. Assumes nothing.
use Prim.Native.Nat.{◌≤◌}
use mathlib.Core.Path.{◌≡◌}
use lib.ListN.{take}
use Rattle.window_columns.specs.Rows.{row_starts}
use Rattle.window_columns.proofs.place_rows.Given as goal

abbrev pub invariant-loop-j : goal.invariant-loop-j
invariant-loop-j l = (l.n ≤ l.j) × (take l.n l.rows ≡ row_starts l.frame l.y l.j)
