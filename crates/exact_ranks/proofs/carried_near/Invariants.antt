-- `exact_ranks::carried_near` meets its contract: row by row, and the first row that is not near decides. Assumes nothing.
use mathlib.Core.Path.{◌≡◌}
use lib.ListN.{length}
use Rattle.near_rows.proofs.RowLaws.{RowsNear}
use Rattle.exact_ranks.proofs.Ranks.{rank_at}
use Rattle.exact_ranks.proofs.carried_near.Given as goal

abbrev pub invariant-loop-v : goal.invariant-loop-v
invariant-loop-v l = RowsNear l.c 1 l.frame.width l.frame.height l.channel l.received (rank_at l.frame l.rank.window.r l.rank.window.s l.rank.position l.plane) l.v
    × (256 ≡ length l.counts) × (8192 ≡ length l.levels) × (8192 ≡ length l.wide)
