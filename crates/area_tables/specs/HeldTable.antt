-- The rows of a summed-area table that are held while it is made.
use Rattle.std.specs.Prelude.{ℕ, ◌+◌, ◌≤◌, ◌<◌, ◌≡◌, List, get_or}
use Rattle.frame.specs.declared.Frame.{Frame}
use Rattle.table_sizes.specs.Ring.{table_width, ring_rows, row_start}
use Rattle.area_tables.specs.Table.{entry}

-- once row k was made: it and the 2s+1 rows above it, each in its place
pub record HeldTable (f : Frame) (r s : ℕ) (samples : List ℕ) (k : ℕ) (sums : List ℕ) : Type 0 where
  pub held : (i y : ℕ) → i < table_width f.width r → y ≤ k → k < y + ring_rows s → get_or sums (row_start f.width r s y + i) 0 ≡ entry f r s samples i y
