-- `stages::run_stages` meets its contract: stage by stage. Assumes nothing.
use Prim.Native.Nat.{◌+◌}
use native.Mathlib.Nat.{sub-zero, mul_comm}
use native.Mathlib.Omega.{arith}
use mathlib.Core.Path.{refl, sym, ◌∙◌}
use Rattle.lists.proofs.Part.{tail_mid}
use Rattle.recipe.specs.Recipe.{recipe_stages}
use Rattle.room.proofs.Rest.{rest_first, next_passes, next_rest, next_stages, rest_done}
use Rattle.stages.proofs.ChainLaws.{chain_none, chain_more, first_fits, rest_fit}
use Rattle.stages.proofs.run_stages.Goals as goal

pub slice_bounds-rest-count : goal.slice_bounds-rest-count
slice_bounds-rest-count c =
    (rest_first c.args.bytes.now c.requires.accepted).0

pub slice_bounds-rest-start : goal.slice_bounds-rest-start
slice_bounds-rest-start c =
    (rest_first c.args.bytes.now c.requires.accepted).0

pub bounds-bytes-0 : goal.bounds-bytes-0
bounds-bytes-0 c =
    omega (arith, (rest_first c.args.bytes.now c.requires.accepted).0)

pub loop-init : goal.loop-init
unfolding recipe_stages
loop-init c =
    let b = c.args.bytes.now in
    record {
      left = rw (tail_mid 1 b) (rest_first b c.requires.accepted).1;
      enough-sums = rw (sub-zero, tail_mid 1 b) c.requires.enough-sums;
      done = rw (sub-zero, tail_mid 1 b);
      work-length = refl;
      rows-length = refl;
    }

pub read_stage-stage-requires : goal.read_stage-stage-requires
read_stage-stage-requires c =
    next_passes c.loop.invariant.left c.loop-test.true

pub run_stage-requires : goal.run_stage-requires
run_stage-requires c =
    let p = c.requires in
    let L = c.loop in
    let I = L.invariant in (
      p.width.0,
      p.width.1,
      p.height.0,
      p.height.1,
      rw (mul_comm c.args.h c.args.w) (omega (arith, I.work-length, p.enough-work)),
      rw (mul_comm (c.args.h + 30) c.args.w) (omega (arith, I.rows-length, p.enough-rows)),
      (_, c.read_stage-stage.ensures.0, first_fits _ _ _ (rw (next_stages I.left c.loop-test.true) at I.enough-sums)),
    )

pub stage_length-requires : goal.stage_length-requires
stage_length-requires c =
    next_passes c.loop.invariant.left c.loop-test.true

pub loop-preserved : goal.loop-preserved
loop-preserved c =
    let L = c.loop in
    let I = L.invariant in
    let b = L.rest.now in
    let t = c.loop-test.true in
    let n = c.stage_length.ensures in
    let m = tail_mid c.stage_length.result b in
    let e = next_stages I.left t in
    record {
      left = rw m (next_rest I.left t c.stage_length.result n.0 n.1 n.2);
      enough-sums = rw (m, n.0) (let f = rest_fit _ _ _ (rw e at I.enough-sums) in omega arith);
      done = I.done ∙ rw (e, m, n.0) (chain_more _ _ _ _ _ _ (c.run_stage.ensures _ c.read_stage-stage.ensures.0));
      work-length = omega arith;
      rows-length = omega arith;
    }

pub returns : goal.returns
returns c =
    let L = c.loop in
    sym (L.invariant.done ∙ rw (rest_done L.invariant.left c.loop-test.false) (chain_none _ _ _))
