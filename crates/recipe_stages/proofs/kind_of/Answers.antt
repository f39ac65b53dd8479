-- `recipe_stages::kind_of` meets its contract: of a number that passes there is a kind. Assumes nothing.
use native.Mathlib.Omega.{arith}
use Rattle.recipe_bytes.specs.Bytes.{at}
use Rattle.stage_fields.proofs.StageFieldLaws.{kind_found}
use Rattle.recipe_stages.proofs.ByKind.{head_known}
use Rattle.recipe_stages.proofs.kind_of.Goals as goal

pub bounds-part-0 : goal.bounds-part-0
bounds-part-0 c =
    omega (arith, head_known c.args.part.now c.requires)

pub unwrap-requires : goal.unwrap-requires
unwrap-requires c =
    let k = head_known c.args.part.now c.requires in
    kind_found (at c.args.part.now 0) c.try_from.result k.0 k.1 c.try_from.ensures
