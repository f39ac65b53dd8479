-- The fields that stages share ('Recipe bytes'): the three header bytes, radii, and a position.
use Rattle.std.specs.Prelude.{ℕ, ◌&&◌, ◌||◌, List, ◌++◌, leb, eqb}
use Rattle.refusals.specs.declared.Refusal.TheVariants as Refusal
use Rattle.refusals.specs.Refusal.{Test}
use Rattle.model.specs.Window.{area}
use Rattle.recipe_bytes.specs.Bytes.{at, word, field}

-- the header bytes: the kind, 1 to 6; the border, 0 to 3; and a border value, which only the constant border may have other than 0
unfoldable pub head_tests : List ℕ → List Test
head_tests b =
    field b 1 (leb 1 (at b 0) && leb (at b 0) 6) Refusal.Kind
    ++ field b 2 (leb (at b 1) 3) Refusal.Kind
    ++ field b 3 (eqb (at b 1) 0 || eqb (at b 2) 0) Refusal.Kind

-- the radius across and the radius down, neither over 15
unfoldable pub radius_tests : List ℕ → List Test
radius_tests b = field b 1 (leb (at b 0) 15) Refusal.Count ++ field b 2 (leb (at b 1) 15) Refusal.Count

-- the position, two bytes behind the radii: at least 1, and no more than the window has samples
unfoldable pub position_tests : List ℕ → List Test
position_tests b = field b 4 (leb 1 (word b 2) && leb (word b 2) (area (at b 0) (at b 1))) Refusal.Position
