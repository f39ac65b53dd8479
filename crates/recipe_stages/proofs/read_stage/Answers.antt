-- `recipe_stages::read_stage` meets its contract. Assumes nothing.
use native.Mathlib.Omega.{arith}
use mathlib.Core.Path.{◌∙◌}
use Rattle.lists.proofs.Part.{tail_mid}
use Rattle.model.specs.Stage.{stage}
use Rattle.recipe_stages.specs.StageBytes.{stage_of}
use Rattle.recipe_stages.proofs.ByKind.{known, stage-parts}
use Rattle.recipe_stages.proofs.read_stage.Goals as goal

pub bounds-part-1 : goal.bounds-part-1
bounds-part-1 c =
    omega (arith, (known c.args.part.now c.requires).there)

pub slice_bounds-stage_of-count : goal.slice_bounds-stage_of-count
slice_bounds-stage_of-count c =
    omega (arith, (known c.args.part.now c.requires).there)

pub slice_bounds-stage_of-start : goal.slice_bounds-stage_of-start
slice_bounds-stage_of-start c =
    omega (arith, (known c.args.part.now c.requires).there)

pub kind_of-requires : goal.kind_of-requires
kind_of-requires c =
    (stage-parts c.args.part.now c.requires).0

pub bounds-part-2 : goal.bounds-part-2
bounds-part-2 c =
    omega (arith, (known c.args.part.now c.requires).there)

pub stage_of-requires : goal.stage_of-requires
stage_of-requires c =
    rw c.kind_of.ensures (known c.args.part.now c.requires).fields

pub returns : goal.returns
unfolding stage_of stage
returns c =
    let b = c.args.part.now in
    let e = c.stage_of.ensures in
    let s = rw (tail_mid 3 b, c.kind_of.ensures) at e.0 in
    (record { border = s.border ∙ c.border_of-border.ensures; value = s.value; work = s.work }, e.1, e.2)
