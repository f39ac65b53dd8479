-- `plane_filter::filter_plane` meets its contract: by its answer. Assumes nothing.
use native.Mathlib.Omega.{arith}
use mathlib.Core.Path.{refl, ap, ◌∙◌}
use Rattle.std.specs.Prelude.{Ok, Err}
use Rattle.std.proofs.lemmas.Result.{err_from_is_err_and}
use Rattle.plane_filter.proofs.PlanePromise.{plane_refuses, plane_shown, plane_filters}
use Rattle.plane_filter.proofs.filter_plane.Goals as goal

pub returns-in_err-tolerance : goal.returns-in_err-tolerance
returns-in_err-tolerance c =
    let a = c.args in
    let p = err_from_is_err_and c.from_residual.result c.from_residual.ensures.1 in
    plane_refuses a.recipe.now a.w a.h a.plane.now a.work.now a.rows.now a.sums.now a.out.now _ (p.1 ∙ ap Err p.2 ∙ rw (← c.of-lent.ensures) c.in_err-tolerance.ensures) p.1

pub run-requires : goal.run-requires
run-requires c =
    let a = c.args in
    let p = plane_shown a.recipe.now a.w a.h a.plane.now a.work.now a.rows.now a.sums.now a.out.now (Ok c.in_ok-tolerance.tolerance) (rw (← c.of-lent.ensures) c.in_ok-tolerance.ensures) refl in
    (p.suffices, p.whole, p.output)

pub returns : goal.returns
returns c =
    let a = c.args in
    plane_filters a.recipe.now a.w a.h a.plane.now a.work.now a.rows.now a.sums.now a.out.now _ (rw (← c.of-lent.ensures) c.in_ok-tolerance.ensures) refl
    (λ i. omega (arith, (c.type_inv.recipe i).fits)) (λ i. omega (arith, (c.type_inv.plane i).fits)) c.run.ensures
