-- Box work ('The three kinds of work') on a neighbourhood.
use Rattle.std.specs.Prelude.{ℕ, ◌+◌, ◌*◌, ◌/◌}
use Rattle.integers.specs.Sum.{sum}
use Rattle.model.specs.Plane.{Neighbourhood}
use Rattle.model.specs.Window.{area, window}

-- the mean of the window, rounded to the nearest, halves up: floor((2·sum + area) / (2·area))
unfoldable pub box_result : ℕ → ℕ → Neighbourhood → ℕ
box_result r s f = (2 * sum (window r s f) + area r s) / (2 * area r s)
