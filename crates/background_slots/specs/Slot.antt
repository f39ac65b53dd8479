-- One slot of lent memory written over: a raster, and the two labels of a still; and a slot that may be none.
use Rattle.std.specs.Prelude.{ℕ, ◌+◌, ◌*◌, cond, List, ◌++◌, take, drop, set, ltb, Option, None, Some}

-- place i of k, or none where i is past them
abbrev pub place_among : ℕ → ℕ → Option ℕ
place_among k i = cond (ltb i k) (Some i) None

-- rasters with another one in slot i
unfoldable pub with_raster : ℕ → ℕ → List ℕ → List ℕ → List ℕ
with_raster size i raster rasters = take (i * size) rasters ++ (raster ++ drop (i * size + size) rasters)

-- labels with another number and T in slot i
unfoldable pub with_labels : ℕ → ℕ → ℕ → List ℕ → List ℕ
with_labels i n T labels = set (set labels (2 * i) n) (2 * i + 1) T
