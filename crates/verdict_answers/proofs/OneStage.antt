-- The one stage of an accepted recipe. Assumes nothing.
use Prim.Native.Nat.{ℕ, ◌≤◌}
use native.Mathlib.Omega.{arith}
use mathlib.Core.Path.{◌≡◌}
use mathlib.Core.List.{List}
use lib.ListN.{length, drop, length-drop}
use Rattle.refusals.specs.Refusal.{verdict}
use Rattle.std.specs.Prelude.{Ok}
use Rattle.recipe_bytes.specs.Bytes.{at}
use Rattle.recipe_stages.specs.StageBytes.{stage_tests}
use Rattle.recipe_stages.proofs.ByKind.{known}
use Rattle.recipe.specs.Recipe.{recipe_tests}
use Rattle.recipe.proofs.Walk.{walk_start, walk_tests}

module _ (b : List ℕ) (e : verdict (recipe_tests b) ≡ Ok tt) where
  pub recipe_long : 1 ≤ length b
  recipe_long = (walk_start b e).0

  module _ (one : at b 0 ≡ 1) where
    -- its tests have passed
    pub stage_tests_lem : verdict (stage_tests (drop 1 b)) ≡ Ok tt
    stage_tests_lem = walk_tests b (walk_start b e).1 (omega (arith, one))

    -- its header bytes are there
    pub stage_long : 4 ≤ length b
    stage_long = omega (arith, (known (drop 1 b) stage_tests_lem).there, length-drop 1 b)
