-- `small_ranks::first_rows` meets its contract: with each row one slot more holds its row, until all but the first do. Assumes nothing.
use Prim.Native.Nat.{◌+◌, ◌-◌}
use Rattle.small_ranks.specs.HeldRows.{HeldRows}
use Rattle.small_ranks.proofs.first_rows.Given as goal

abbrev pub invariant-loop-y : goal.invariant-loop-y
invariant-loop-y l = HeldRows l.frame l.plane l.y (l.first + 1 - l.y) (l.last + 1) l.rows
