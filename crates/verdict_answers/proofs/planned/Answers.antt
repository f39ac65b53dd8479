-- `verdict_answers::planned` meets its contract: the distance, the recipe's own tests, its form, and then the stills. Assumes nothing.
use mathlib.Core.Path.{sym, ◌∙◌}
use borrow.Author.Tests.{le-leb, lt-leb}
use Rattle.std.proofs.lemmas.Result.{err_from_is_err_and}
use Rattle.recipe.proofs.Accepted.{recipe_read, recipe_refused}
use Rattle.verdict_answers.proofs.Plans.{plan_distance, plan_recipe, plan_other, plan_stills}
use Rattle.verdict_answers.proofs.planned.Goals as goal

pub returns-then-distance-gt255 : goal.returns-then-distance-gt255
returns-then-distance-gt255 c =
    sym (plan_distance _ _ _ _ _ (lt-leb _ _ c.if-distance-gt255.true))

pub returns-in_err-read_recipe : goal.returns-in_err-read_recipe
returns-in_err-read_recipe c =
    let a = c.args in
    let p = err_from_is_err_and c.from_residual.result c.from_residual.ensures.1 in
    rw (p.1, p.2) (sym (plan_recipe a.distance a.recipe.now a.raw.now a.received.now a.works (le-leb _ _ c.if-distance-gt255.false) (recipe_refused a.recipe.now (sym c.in_err-read_recipe.ensures))))

pub fit_stage-requires : goal.fit_stage-requires
fit_stage-requires c =
    (recipe_read c.args.recipe.now (sym c.in_ok-read_recipe.ensures)).0

pub returns-then-not-fit_stage : goal.returns-then-not-fit_stage
returns-then-not-fit_stage c =
    let a = c.args in
    let r = (recipe_read a.recipe.now (sym c.in_ok-read_recipe.ensures)).0 in
    sym (plan_other a.distance a.recipe.now a.raw.now a.received.now a.works (le-leb _ _ c.if-distance-gt255.false) r (sym c.fit_stage.ensures ∙ c.if-not-fit_stage.true))

pub returns : goal.returns
returns c =
    let a = c.args in
    let r = (recipe_read a.recipe.now (sym c.in_ok-read_recipe.ensures)).0 in
    c.stills.ensures ∙ sym (plan_stills a.distance a.recipe.now a.raw.now a.received.now a.works (le-leb _ _ c.if-distance-gt255.false) r (sym c.fit_stage.ensures ∙ c.if-not-fit_stage.false))
