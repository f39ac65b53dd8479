-- `exact_stages::channel_near` meets its contract, kind by kind. Assumes nothing.
use native.Mathlib.Omega.{arith}
use mathlib.Core.Path.{◌∙◌}
use lib.ListN.{drop}
use Rattle.lists.proofs.Part.{tail_mid}
use Rattle.stage_values.specs.Stands.{Stands}
use Rattle.recipe_stages.specs.StageBytes.{stage_of}
use Rattle.exact_stages.proofs.ByKind.{long, passed, framed, tap_tests_lem, ratios_same, box-same, rank_same, never_outlined}
use Rattle.exact_stages.proofs.channel_near.Goals as goal

pub slice_bounds-read_stage-count : goal.slice_bounds-read_stage-count
slice_bounds-read_stage-count c =
    omega (arith, long c.requires.0)

pub slice_bounds-read_stage-start : goal.slice_bounds-read_stage-start
slice_bounds-read_stage-start c =
    omega (arith, long c.requires.0)

pub read_stage-stage-requires : goal.read_stage-stage-requires
read_stage-stage-requires c =
    rw (tail_mid 1 c.args.recipe.now) (passed c.requires.0)

pub slice_bounds-taps_on-count : goal.slice_bounds-taps_on-count
slice_bounds-taps_on-count c =
    omega (arith, long c.requires.0)

pub slice_bounds-taps_on-start : goal.slice_bounds-taps_on-start
slice_bounds-taps_on-start c =
    omega (arith, long c.requires.0)

pub taps_on-across-requires : goal.taps_on-across-requires
taps_on-across-requires c =
    let stands : Stands c.read_stage-stage.result (stage_of (drop 1 c.args.recipe.now)) = rw (tail_mid 1 c.args.recipe.now) at c.read_stage-stage.ensures.0 in
    (omega arith, rw (tail_mid 4 c.args.recipe.now) (tap_tests_lem c.requires.0 c.args.w c.args.h _ stands c.in-Weighted.is))

pub slice_bounds-taps_on-count-in-Weighted : goal.slice_bounds-taps_on-count-in-Weighted
slice_bounds-taps_on-count-in-Weighted c =
    omega (arith, long c.requires.0)

pub slice_bounds-taps_on-start-in-Weighted : goal.slice_bounds-taps_on-start-in-Weighted
slice_bounds-taps_on-start-in-Weighted c =
    omega (arith, long c.requires.0)

pub taps_on-down-requires : goal.taps_on-down-requires
taps_on-down-requires c =
    let stands : Stands c.read_stage-stage.result (stage_of (drop 1 c.args.recipe.now)) = rw (tail_mid 1 c.args.recipe.now) at c.read_stage-stage.ensures.0 in
    (omega arith, rw (tail_mid 4 c.args.recipe.now) (tap_tests_lem c.requires.0 c.args.w c.args.h _ stands c.in-Weighted.is))

pub ratios_near-requires : goal.ratios_near-requires
ratios_near-requires c =
    let stands : Stands c.read_stage-stage.result (stage_of (drop 1 c.args.recipe.now)) = rw (tail_mid 1 c.args.recipe.now) at c.read_stage-stage.ensures.0 in
    let p = c.requires in
    (framed p.0 c.args.w c.args.h _ stands p.1 p.2, p.3, p.4)

pub box_near-requires : goal.box_near-requires
box_near-requires c =
    let stands : Stands c.read_stage-stage.result (stage_of (drop 1 c.args.recipe.now)) = rw (tail_mid 1 c.args.recipe.now) at c.read_stage-stage.ensures.0 in
    let p = c.requires in
    (framed p.0 c.args.w c.args.h _ stands p.1 p.2, p.3, p.4)

pub rank_near-requires : goal.rank_near-requires
rank_near-requires c =
    let stands : Stands c.read_stage-stage.result (stage_of (drop 1 c.args.recipe.now)) = rw (tail_mid 1 c.args.recipe.now) at c.read_stage-stage.ensures.0 in
    let p = c.requires in
    (framed p.0 c.args.w c.args.h _ stands p.1 p.2, p.3, p.4)

pub returns-in-Weighted : goal.returns-in-Weighted
returns-in-Weighted c =
    let stands : Stands c.read_stage-stage.result (stage_of (drop 1 c.args.recipe.now)) = rw (tail_mid 1 c.args.recipe.now) at c.read_stage-stage.ensures.0 in
    let a = c.args in
    let r = a.recipe.now in
    c.ratios_near.ensures
    ∙ ratios_same c.requires.0 a.w a.h _ stands c.in-Weighted.is a.c a.channel a.received.now a.plane.now _ _ (rw (tail_mid 4 r) at c.taps_on-across.ensures) (rw (tail_mid 4 r) at c.taps_on-down.ensures)

pub returns-in-Boxed : goal.returns-in-Boxed
returns-in-Boxed c =
    let stands : Stands c.read_stage-stage.result (stage_of (drop 1 c.args.recipe.now)) = rw (tail_mid 1 c.args.recipe.now) at c.read_stage-stage.ensures.0 in
    let a = c.args in
    c.box_near.ensures ∙ box-same c.requires.0 a.w a.h _ stands c.in-Boxed.is a.c a.channel a.received.now a.plane.now

pub returns-in-Ranked : goal.returns-in-Ranked
returns-in-Ranked c =
    let stands : Stands c.read_stage-stage.result (stage_of (drop 1 c.args.recipe.now)) = rw (tail_mid 1 c.args.recipe.now) at c.read_stage-stage.ensures.0 in
    let a = c.args in
    c.rank_near.ensures ∙ rank_same c.requires.0 a.w a.h _ stands c.in-Ranked.is a.c a.channel a.received.now a.plane.now

pub returns-in-Outlined : goal.returns-in-Outlined
returns-in-Outlined c =
    let stands : Stands c.read_stage-stage.result (stage_of (drop 1 c.args.recipe.now)) = rw (tail_mid 1 c.args.recipe.now) at c.read_stage-stage.ensures.0 in
    absurd (never_outlined c.requires.0 c.args.w c.args.h _ stands c.in-Outlined.is)
