-- `recipe_stages::window_at` meets its contract: the radii pass. Assumes nothing.
use native.Mathlib.Omega.{arith}
use Rattle.refusals.proofs.Passed.{all_pass}
use Rattle.stage_fields.specs.StageFields.{radius_tests}
use Rattle.stage_fields.proofs.StageFieldLaws.{radius_passed}
use Rattle.recipe_stages.proofs.window_at.Goals as goal

pub bounds-part-0 : goal.bounds-part-0
bounds-part-0 c =
    omega (arith, radius_passed c.args.part.now (all_pass (radius_tests c.args.part.now) c.requires))

pub bounds-part-1 : goal.bounds-part-1
bounds-part-1 c =
    omega (arith, radius_passed c.args.part.now (all_pass (radius_tests c.args.part.now) c.requires))

pub invariant_of-result : goal.invariant_of-result
invariant_of-result c =
    let p = radius_passed c.args.part.now (all_pass (radius_tests c.args.part.now) c.requires) in
    record { near = (omega arith, omega arith) }
