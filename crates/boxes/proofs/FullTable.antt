-- THE ROWS THAT ARE HELD GIVE WHAT THE FULL TABLE GIVES, for every frame, window and list of samples. Assumes nothing.
use Prim.Native.Nat.{ℕ, ◌+◌, ◌*◌, ◌<◌}
use native.Mathlib.Nat.{le_refl}
use native.Mathlib.Omega.{arith}
use mathlib.Core.Path.{◌≡◌, ◌∙◌}
use mathlib.Core.List.{List}
use lib.ListN.{get_or, drop}
use lib.Seq.{get_or-drop}
use Rattle.lists.proofs.Raster.{get_or-raster}
use Rattle.frame.specs.declared.Frame.{Frame}
use Rattle.table_sizes.specs.Ring.{table_width, row_start}
use Rattle.area_tables.specs.Table.{entry, full_table}
use Rattle.area_tables.specs.HeldTable.{HeldTable}
use Rattle.mean_rows.specs.Corners.{corners}
use Rattle.window_means.specs.WindowCorners.{corners_at, full_corners}

module _ (f : Frame) (r s : ℕ) (samples : List ℕ) where
  -- a list whose front is row y of the table
  abbrev pub Row : List ℕ → ℕ → Type 0
  Row l y = (i : ℕ) → i < table_width f.width r → get_or l i 0 ≡ entry f r s samples i y

  full_row : (y : ℕ) → y < f.height + 2 * s + 1 → Row (drop (y * table_width f.width r) (full_table f r s samples)) y
  unfolding full_table
  full_row y h i k = get_or-drop (y * table_width f.width r) _ i 0 ∙ get_or-raster (entry f r s samples) (table_width f.width r) (f.height + 2 * s + 1) i y 0 k h

  module _ (sums : List ℕ) (v : ℕ) (held : HeldTable f r s samples (v + (2 * s + 1)) sums) where
    pub upper_held : Row (drop (row_start f.width r s v) sums) v
    upper_held i h = get_or-drop (row_start f.width r s v) sums i 0 ∙ held.held i v h (omega arith) (omega arith)

    pub lower_held : Row (drop (row_start f.width r s (v + (2 * s + 1))) sums) (v + (2 * s + 1))
    lower_held i h = get_or-drop (row_start f.width r s (v + (2 * s + 1))) sums i 0 ∙ held.held i (v + (2 * s + 1)) h (le_refl _) (omega arith)

    -- the window of column u, row v, has the same four-corner difference in both, however often the sums have passed 2^32
    pub as_full_table : (u : ℕ) → u < f.width → v < f.height → corners_at sums f.width r s u v ≡ full_corners f r s samples u v
    unfolding corners_at full_corners corners
    as_full_table u hu hv =
        let far : 2 * r + 1 + u < table_width f.width r = omega arith in
        let near : u < table_width f.width r = omega arith in
        let high : v < f.height + 2 * s + 1 = omega arith in
        let low : v + (2 * s + 1) < f.height + 2 * s + 1 = omega arith in
        rw (
          lower_held (2 * r + 1 + u) far,
          upper_held u near,
          upper_held (2 * r + 1 + u) far,
          lower_held u near,
          full_row (v + (2 * s + 1)) low (2 * r + 1 + u) far,
          full_row v high u near,
          full_row v high (2 * r + 1 + u) far,
          full_row (v + (2 * s + 1)) low u near,
        )
