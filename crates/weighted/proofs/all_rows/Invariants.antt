-- `weighted::all_rows` meets its contract: row by row. Assumes nothing.
use Prim.Native.Nat.{◌+◌, ◌*◌}
use mathlib.Core.Path.{◌≡◌}
use lib.ListN.{length}
use Rattle.lists.proofs.Stored.{StoredRows}
use Rattle.frame.specs.Padded.{padded}
use Rattle.tap_sums.specs.HeldSums.{held_row}
use Rattle.weighted.proofs.all_rows.Given as goal

abbrev pub invariant-loop-y : goal.invariant-loop-y
invariant-loop-y l = StoredRows (λ u v. held_row l.axis.taps (padded l.frame l.plane) u (l.first + v)) l.frame.width l.count l.initial.rows l.rows (l.y * l.frame.width) l.y × (8224 ≡ length l.row)
