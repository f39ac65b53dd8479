-- `carried_ranks::rank_rows` meets its contract: the rows so far. Assumes nothing.
use Prim.Native.Nat.{◌*◌}
use mathlib.Core.Path.{◌≡◌}
use lib.ListN.{length}
use Rattle.lists.proofs.Stored.{StoredRows}
use Rattle.model.specs.Rank.{rank_result}
use Rattle.frame.specs.Framed.{neighbours}
use Rattle.carried_ranks.proofs.rank_rows.Given as goal

abbrev pub invariant-loop-v : goal.invariant-loop-v
invariant-loop-v l = StoredRows (λ i j. rank_result l.rank.window.r l.rank.window.s l.rank.position (neighbours l.frame l.plane i j)) l.frame.width l.frame.height l.initial.dst l.dst (l.v * l.frame.width) l.v × (length l.counts ≡ 256)
