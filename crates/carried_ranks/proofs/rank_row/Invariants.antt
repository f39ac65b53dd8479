-- `carried_ranks::rank_row` meets its contract: the samples stored so far; what is counted is the window of the sample that comes next, and so many of its samples are below the level that is carried along. Assumes nothing.
use Prim.Native.Nat.{◌+◌, ◌-◌, ◌*◌}
use mathlib.Core.Path.{◌≡◌}
use Rattle.frame.specs.Framed.{neighbours}
use Rattle.model.specs.Rank.{rank_result}
use Rattle.histograms.specs.Histogram.{histogram}
use Rattle.histograms.specs.Position.{Summed}
use Rattle.window_columns.specs.Rows.{row_starts}
use Rattle.window_columns.specs.Columns.{column_in, side_by_side}
use Rattle.lists.proofs.Stored.{Stored}
use Rattle.carried_ranks.proofs.rank_row.Given as goal

abbrev pub invariant-loop-u : goal.invariant-loop-u
invariant-loop-u l = Stored (λ k. rank_result l.rank.window.r l.rank.window.s l.rank.position (neighbours l.frame l.plane k l.v)) l.frame.width l.initial.dst l.dst l.u
    × (l.counts ≡ histogram (side_by_side (column_in l.frame l.plane (row_starts l.frame (15 - l.rank.window.s + l.v) (2 * l.rank.window.s + 1)) (2 * l.rank.window.s + 1)) (15 - l.rank.window.r + l.u) (2 * l.rank.window.r + 1))) × Summed l.counts l.at
