-- `weighted_columns::all_columns` meets its contract: row by row. Assumes nothing.
use Prim.Native.Nat.{◌*◌}
use mathlib.Core.Path.{◌≡◌}
use lib.ListN.{length}
use Rattle.lists.proofs.Stored.{StoredRows}
use Rattle.tap_sums.proofs.PartialSums.{level_at}
use Rattle.weighted_columns.proofs.all_columns.Given as goal

abbrev pub invariant-loop-v : goal.invariant-loop-v
invariant-loop-v l = StoredRows (level_at l.axis.taps l.w l.reach.first l.rows) l.w l.h l.initial.plane l.plane (l.v * l.w) l.v × (8192 ≡ length l.sums)
