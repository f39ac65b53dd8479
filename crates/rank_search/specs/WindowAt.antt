-- A window in rows that lie one behind another, each with 15 samples more on each side.
use Rattle.std.specs.Prelude.{ℕ, ◌+◌, ◌-◌, ◌*◌, List, get_or}
use Rattle.lists.specs.Tabulate.{raster}

-- the first n rows of column u's window, of radius r across, in rows of w samples and the 15 on each side
unfoldable pub window_at : List ℕ → ℕ → ℕ → ℕ → ℕ → List ℕ
window_at rows w r n u = raster (λ i j. get_or rows (15 - r + j * (w + 30) + (u + i)) 0) (2 * r + 1) n
