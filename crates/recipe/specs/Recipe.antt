-- What `read_recipe` answers.
use Rattle.std.specs.Prelude.{ℕ, zero, suc, ◌&&◌, List, [], ◌∷◌, ◌++◌, length, drop, leb, eqb, Result, Ok, Err}
use Rattle.refusals.specs.declared.Refusal.{Refusal}
use Rattle.refusals.specs.Refusal.{Test, tested}
use Rattle.model.specs.Stage.{Stage}
use Rattle.model.specs.Tolerance.{tolerance}
use Rattle.answers.specs.declared.Recipe.{Recipe}
use Rattle.recipe_bytes.specs.Bytes.{at, field}
use Rattle.recipe_stages.specs.StageBytes.{stage_tests, stage_length, stage_of}

-- k stages one after the other: the tests of each, and at the end that no byte is left over; and the stages themselves
unfoldable pub stages_tests : ℕ → List ℕ → List Test
stages_tests zero b = (eqb (length b) 0, Refusal.Trailing) ∷ []
stages_tests (suc k) b = stage_tests b ++ stages_tests k (drop (stage_length b) b)

unfoldable pub stages_of : ℕ → List ℕ → List Stage
stages_of zero b = []
stages_of (suc k) b = stage_of b ∷ stages_of k (drop (stage_length b) b)

-- the tests of a recipe ('Recipe bytes'): a first byte S of 1 to 8, and S stages that take up all the rest
unfoldable pub recipe_tests : List ℕ → List Test
recipe_tests b = field b 1 (leb 1 (at b 0) && leb (at b 0) 8) Refusal.StageCount ++ stages_tests (at b 0) (drop 1 b)

-- the stages of a recipe
unfoldable pub recipe_stages : List ℕ → List Stage
recipe_stages b = stages_of (at b 0) (drop 1 b)

-- the answer of `read_recipe`: S and T, or the first refusal
unfoldable pub recipe_of : List ℕ → Result Recipe Refusal
recipe_of b = tested Err (recipe_tests b) (Ok (record { count = at b 0; tolerance = tolerance (recipe_stages b) }))
