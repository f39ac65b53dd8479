-- The corners of a frame's windows, among the rows of sums that are held and in the full table.
use Rattle.std.specs.Prelude.{ℕ, ◌+◌, ◌*◌, List, drop}
use Rattle.frame.specs.declared.Frame.{Frame}
use Rattle.table_sizes.specs.Ring.{table_width, row_start}
use Rattle.area_tables.specs.Table.{full_table}
use Rattle.mean_rows.specs.Corners.{corners}

-- the difference of the window of column u, row v, of a frame of width W: its edges are rows v and v + 2s + 1 of the table
unfoldable pub corners_at : List ℕ → ℕ → ℕ → ℕ → ℕ → ℕ → ℕ
corners_at sums W r s u v = corners (drop (row_start W r s v) sums) (drop (row_start W r s (v + (2 * s + 1))) sums) (2 * r + 1) u

-- the same in the full table of a frame, whose rows lie one behind another
unfoldable pub full_corners : Frame → ℕ → ℕ → List ℕ → ℕ → ℕ → ℕ
full_corners f r s samples u v =
    let row_of : ℕ → List ℕ = λ y. drop (y * table_width f.width r) (full_table f r s samples) in corners (row_of v) (row_of (v + (2 * s + 1))) (2 * r + 1) u
