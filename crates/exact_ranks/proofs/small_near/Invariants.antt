-- `exact_ranks::small_near` meets its contract: row by row, with the rows of its windows in hand, and the first row that is not near decides. Assumes nothing.
use Prim.Native.Nat.{◌+◌, ◌-◌, ◌*◌}
use mathlib.Core.Path.{◌≡◌}
use lib.ListN.{length}
use Rattle.near_rows.proofs.RowLaws.{RowsNear}
use Rattle.small_ranks.specs.HeldRows.{HeldRows}
use Rattle.exact_ranks.proofs.Ranks.{rank_at}
use Rattle.exact_ranks.proofs.small_near.Given as goal

abbrev pub invariant-loop-v : goal.invariant-loop-v
invariant-loop-v l = RowsNear l.c 1 l.frame.width l.frame.height l.channel l.received (rank_at l.frame l.rank.window.r l.rank.window.s l.rank.position l.plane) l.v
    × HeldRows l.frame l.plane (14 - l.rank.window.s + l.v) 1 (2 * l.rank.window.s + 1) l.rows
    × (57554 ≡ length l.rows) × (8192 ≡ length l.seen) × (8192 ≡ length l.levels) × (8192 ≡ length l.wide)
