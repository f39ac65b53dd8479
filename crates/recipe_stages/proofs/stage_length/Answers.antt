-- `recipe_stages::stage_length` meets its contract. Assumes nothing.
use Prim.Native.Nat.{◌+◌}
use native.Mathlib.Omega.{arith}
use lib.ListN.{length-drop}
use mathlib.Core.Path.{ap}
use Rattle.lists.proofs.Part.{tail_mid}
use Rattle.recipe_stages.specs.StageBytes.{stage_length}
use Rattle.recipe_stages.proofs.ByKind.{known, stage-parts}
use Rattle.recipe_stages.proofs.stage_length.Goals as goal

pub slice_bounds-work_length-count : goal.slice_bounds-work_length-count
slice_bounds-work_length-count c =
    omega (arith, (known c.args.part.now c.requires).there)

pub slice_bounds-work_length-start : goal.slice_bounds-work_length-start
slice_bounds-work_length-start c =
    omega (arith, (known c.args.part.now c.requires).there)

pub kind_of-requires : goal.kind_of-requires
kind_of-requires c =
    (stage-parts c.args.part.now c.requires).0

pub work_length-requires : goal.work_length-requires
work_length-requires c =
    rw c.kind_of.ensures (known c.args.part.now c.requires).fields

pub returns : goal.returns
unfolding stage_length
returns c =
    let b = c.args.part.now in
    let l = rw (tail_mid 3 b, c.kind_of.ensures) at c.work_length.ensures in
    (ap (λ n. 3 + n) l.0, omega (arith, l.1, length-drop 3 b, (known b c.requires).there), omega (arith, l.2))
