-- `one_stage::run_stage` meets its contract: by kind of work, on the front of the buffer. Assumes nothing.
use Prim.Native.Nat.{◌*◌}
use native.Mathlib.Nat.{mul-le-mul}
use native.Mathlib.Omega.{arith}
use mathlib.Core.Path.{sym, ◌∙◌}
use lib.ListN.{take, length-take}
use Rattle.kernels.proofs.Sizes.{ready_light}
use Rattle.one_stage.proofs.Planes.{front_frame, front_put, weighted_does, weighted_plane, box_plane, box-room, rank_plane, outline_plane}
use Rattle.one_stage.proofs.run_stage.Goals as goal

pub overflow_mul-n : goal.overflow_mul-n
overflow_mul-n c =
    record { fits = omega (arith, mul-le-mul {n₂ = 8192} {m₂ = 8192} c.requires.3 c.requires.1) }

pub slice_bounds-weighted_stage-end-in-Weighted : goal.slice_bounds-weighted_stage-end-in-Weighted
slice_bounds-weighted_stage-end-in-Weighted c =
    let a = c.args in sym (length-take (a.h * a.w) a.work.now ∙ omega (arith, c.requires.4))

pub invariant_of-across : goal.invariant_of-across
invariant_of-across c =
    let a = c.args in
    let d = weighted_does a.w a.h a.s (take (a.h * a.w) a.work.now) c.requires.6.0 c.requires.6.1 c.in-Weighted.is in
    record { light = ready_light d.3 }

pub invariant_of-down : goal.invariant_of-down
invariant_of-down c =
    let a = c.args in
    let d = weighted_does a.w a.h a.s (take (a.h * a.w) a.work.now) c.requires.6.0 c.requires.6.1 c.in-Weighted.is in
    record { light = ready_light d.4 }

pub weighted_stage-requires : goal.weighted_stage-requires
weighted_stage-requires c =
    let a = c.args in
    let p = c.requires in
    (front_frame a.w a.h a.s a.work.now p.0 p.1 p.2 p.3 p.4, p.5)

pub box_stage-requires : goal.box_stage-requires
box_stage-requires c =
    let a = c.args in
    let p = c.requires in
    (front_frame a.w a.h a.s a.work.now p.0 p.1 p.2 p.3 p.4, p.4, box-room a.w a.h a.s (take (a.h * a.w) a.work.now) p.6.0 p.6.1 c.in-Boxed.is p.6.2)

pub rank_stage-requires : goal.rank_stage-requires
rank_stage-requires c =
    let a = c.args in
    let p = c.requires in
    (front_frame a.w a.h a.s a.work.now p.0 p.1 p.2 p.3 p.4, p.4)

pub outline_stage-requires : goal.outline_stage-requires
outline_stage-requires c =
    let a = c.args in
    let p = c.requires in
    (front_frame a.w a.h a.s a.work.now p.0 p.1 p.2 p.3 p.4, p.4)

pub returns-in-Weighted : goal.returns-in-Weighted
returns-in-Weighted c =
    let a = c.args in
    let x = take (a.h * a.w) a.work.now in
    λ t k. let d = weighted_does a.w a.h a.s x t k c.in-Weighted.is in
    front_put _ a.w a.h _ _ (c.weighted_stage.ensures d.0 d.1 d.3 d.4 ∙ weighted_plane a.w a.h a.s x t k d.0 d.1 d.2)

pub returns-in-Boxed : goal.returns-in-Boxed
returns-in-Boxed c =
    let a = c.args in
    let x = take (a.h * a.w) a.work.now in
    λ t k. c.box_stage.ensures.0 ∙ box_plane a.w a.h a.s x t k c.in-Boxed.is

pub returns-in-Ranked : goal.returns-in-Ranked
returns-in-Ranked c =
    let a = c.args in
    let x = take (a.h * a.w) a.work.now in
    λ t k. c.rank_stage.ensures.0 ∙ rank_plane a.w a.h a.s x t k c.in-Ranked.is

pub returns-in-Outlined : goal.returns-in-Outlined
returns-in-Outlined c =
    let a = c.args in
    let x = take (a.h * a.w) a.work.now in
    λ t k. c.outline_stage.ensures.0 ∙ outline_plane a.w a.h a.s x t k c.in-Outlined.is
