-- The window of a box or a rank ('The three kinds of work'), by its horizontal radius r and its vertical radius s; that of an outline has radii 1 and 1.
use Rattle.std.specs.Prelude.{ℕ, ◌+◌, ◌*◌, List, pos, ◌-ℤ◌}
use Rattle.lists.specs.Tabulate.{raster}
use Rattle.model.specs.Plane.{Neighbourhood}

-- the area, how many samples a window has: (2r+1)(2s+1)
unfoldable pub area : ℕ → ℕ → ℕ
area r s = (2 * r + 1) * (2 * s + 1)

-- the window's samples: offsets -r to r across, -s to s down
unfoldable pub window : ℕ → ℕ → Neighbourhood → List ℕ
window r s f = raster (λ i j. f (pos i -ℤ pos r) (pos j -ℤ pos s)) (2 * r + 1) (2 * s + 1)
