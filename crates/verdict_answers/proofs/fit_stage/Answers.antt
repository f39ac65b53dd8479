-- `verdict_answers::fit_stage` meets its contract: both bytes are there. Assumes nothing.
use native.Mathlib.Omega.{arith}
use Rattle.verdict_answers.proofs.OneStage.{recipe_long, stage_long}
use Rattle.verdict_answers.proofs.fit_stage.Goals as goal

pub bounds-recipe-0 : goal.bounds-recipe-0
bounds-recipe-0 c =
    recipe_long c.args.recipe.now c.requires

pub bounds-recipe-1 : goal.bounds-recipe-1
bounds-recipe-1 c =
    omega (arith, stage_long c.args.recipe.now c.requires c.if-recipe-eq1.true)
