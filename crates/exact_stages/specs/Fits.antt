-- What the tests of a verdict have shown of its recipe and of its sides.
use Rattle.std.specs.Prelude.{ℕ, ◌≤◌, ◌≡◌, true, List, Ok}
use Rattle.refusals.specs.Refusal.{verdict}
use Rattle.recipe.specs.Recipe.{recipe_tests}
use Rattle.verdict_answers.specs.Plan.{fit_stage}

-- an accepted recipe of one fitting stage
pub record Fits (recipe : List ℕ) : Type 0 where
  pub accepted : verdict (recipe_tests recipe) ≡ Ok tt
  pub fit : fit_stage recipe ≡ true

-- sides of 1 to 8,192
pub record Sides (W H : ℕ) : Type 0 where
  pub width : (1 ≤ W) × (W ≤ 8192)
  pub height : (1 ≤ H) × (H ≤ 8192)
