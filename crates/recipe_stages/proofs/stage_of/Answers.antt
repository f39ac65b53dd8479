-- `recipe_stages::stage_of` meets its contract. Assumes nothing.
use mathlib.Core.Path.{refl}
use Rattle.model.specs.Stage.{stage}
use Rattle.stage_fields.specs.Kind.{number}
use Rattle.recipe_stages.proofs.ByKind.{work_does}
use Rattle.recipe_stages.proofs.stage_of.Goals as goal

pub returns : goal.returns
unfolding stage
returns c =
    let a = c.args in
    let does = work_does a.part.now (number a.kind) c.work_for.result c.work_for.ensures _ c.axis_for.ensures.0 c.axis_for-2.ensures.0 in
    (record { border = refl; value = refl; work = does }, c.axis_for.ensures.1, c.axis_for-2.ensures.1)
