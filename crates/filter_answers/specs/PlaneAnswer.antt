-- What `filter_plane` answers.
use Rattle.std.specs.Prelude.{ℕ, ◌*◌, ◌&&◌, List, ◌∷◌, ◌++◌, leb, eqb, Result, Ok, Err}
use Rattle.refusals.specs.declared.Refusal.{Refusal}
use Rattle.refusals.specs.declared.Refusal.TheVariants as Refusal
use Rattle.refusals.specs.Refusal.{Test, tested}
use Rattle.model.specs.Tolerance.{tolerance}
use Rattle.picture_sizes.specs.PictureSize.{is_side}
use Rattle.recipe_bytes.specs.Bytes.{at}
use Rattle.recipe.specs.Recipe.{recipe_tests, recipe_stages}
use Rattle.room.specs.declared.Lent.{Lent}
use Rattle.room.specs.Room.{room_tests}

-- the tests after the recipe's, for a plane of n samples: only one stage (14), the sides (3), n too small (5) or too large (6), what is lent (20), W·H bytes of output in it
unfoldable pub plane_tests : List ℕ → ℕ → ℕ → ℕ → Lent → List Test
plane_tests recipe W H n l =
    (eqb (at recipe 0) 1, Refusal.Count)
    ∷ (is_side W && is_side H, Refusal.Side)
    ∷ (leb (W * H) n, Refusal.RasterShort)
    ∷ (leb n (W * H), Refusal.RasterLong)
    ∷ room_tests W H (recipe_stages recipe) (W * H) l

-- the answer of `filter_plane`: T, or the first refusal
unfoldable pub plane_answer : List ℕ → ℕ → ℕ → ℕ → Lent → Result ℕ Refusal
plane_answer recipe W H n l = tested Err (recipe_tests recipe ++ plane_tests recipe W H n l) (Ok (tolerance (recipe_stages recipe)))
