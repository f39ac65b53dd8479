-- The answer of `needs`, case by case. Assumes nothing.
use Prim.Native.Nat.{ℕ}
use mathlib.Core.Path.{◌≡◌}
use mathlib.Core.List.{List}
use Rattle.std.specs.Prelude.{Ok, Err}
use Rattle.refusals.specs.declared.Refusal.{Refusal}
use Rattle.refusals.specs.Refusal.{verdict}
use Rattle.refusals.proofs.Passed.{passed_whole, refused-whole}
use Rattle.still_reader.specs.Head.{head_of}
use Rattle.recipe.specs.Recipe.{recipe_tests, recipe_stages, recipe_of}
use Rattle.recipe.proofs.Accepted.{recipe_refused}
use Rattle.buffer_needs.specs.NeedsAnswer.{head_needs, needs_answer}

module _ (recipe still : List ℕ) where
  -- a recipe that is refused decides
  pub recipe_decides : {r : Refusal} → recipe_of recipe ≡ Err r → needs_answer recipe still ≡ Err r
  unfolding needs_answer
  recipe_decides e = refused-whole Err (head_needs (recipe_stages recipe) (head_of still)) (recipe_tests recipe) (recipe_refused recipe e)

  -- one that is accepted leaves it to the header
  pub head_decides : verdict (recipe_tests recipe) ≡ Ok tt → needs_answer recipe still ≡ head_needs (recipe_stages recipe) (head_of still)
  unfolding needs_answer
  head_decides e = passed_whole Err (head_needs (recipe_stages recipe) (head_of still)) (recipe_tests recipe) e
