-- `room::sum_need` meets its contract: stage by stage. Assumes nothing.
use native.Mathlib.Nat.{sub-zero}
use native.Mathlib.Omega.{arith}
use mathlib.Core.Path.{sym, ◌∙◌}
use Rattle.lists.proofs.Part.{tail_mid}
use Rattle.recipe.specs.Recipe.{recipe_stages}
use Rattle.room.proofs.Rest.{rest_first, next_passes, next_rest, next_stages, rest_done}
use Rattle.room.proofs.NeedLaws.{need_more, need_none}
use Rattle.room.proofs.sum_need.Goals as goal

pub slice_bounds-rest-count : goal.slice_bounds-rest-count
slice_bounds-rest-count c =
    (rest_first c.args.bytes.now c.requires.1).0

pub slice_bounds-rest-start : goal.slice_bounds-rest-start
slice_bounds-rest-start c =
    (rest_first c.args.bytes.now c.requires.1).0

pub bounds-bytes-0 : goal.bounds-bytes-0
bounds-bytes-0 c =
    omega (arith, (rest_first c.args.bytes.now c.requires.1).0)

pub loop-init : goal.loop-init
unfolding recipe_stages
loop-init c =
    let b = c.args.bytes.now in
    record { left = rw (tail_mid 1 b) (rest_first b c.requires.1).1; most = rw (sub-zero, tail_mid 1 b) (omega arith) }

pub read_stage-stage-requires : goal.read_stage-stage-requires
read_stage-stage-requires c =
    next_passes c.loop.invariant.left c.loop-test.true

pub stage_length-requires : goal.stage_length-requires
stage_length-requires c =
    next_passes c.loop.invariant.left c.loop-test.true

pub loop-preserved : goal.loop-preserved
loop-preserved c =
    let L = c.loop in
    let b = L.rest.now in
    let t = c.loop-test.true in
    let n = c.stage_length.ensures in
    record {
      left = rw (tail_mid c.stage_length.result b) (next_rest L.invariant.left t c.stage_length.result n.0 n.1 n.2);
      most = L.invariant.most ∙ rw (next_stages L.invariant.left t, tail_mid c.stage_length.result b, n.0, c.max-need.ensures) (need_more c.args.w _ _ L.need _ (c.work_sums.ensures _ c.read_stage-stage.ensures.0));
    }

pub returns : goal.returns
returns c =
    let L = c.loop in
    sym (L.invariant.most ∙ rw (rest_done L.invariant.left c.loop-test.false) (need_none _ _))
