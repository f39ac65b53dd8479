-- `filter_answers::plane_answer` meets its contract: the recipe's tests, then the others. Assumes nothing.
use mathlib.Core.Path.{sym, ap, ◌∙◌}
use Rattle.std.specs.Prelude.{Ok}
use Rattle.std.proofs.lemmas.Result.{err_from_is_err_and}
use Rattle.recipe.proofs.Accepted.{recipe_read}
use Rattle.filter_answers.proofs.PlaneAccepted.{plane_refused, plane_refused_late, plane_done}
use Rattle.filter_answers.proofs.plane_answer.Goals as goal

pub plane_tests-requires : goal.plane_tests-requires
plane_tests-requires c =
    (recipe_read c.args.bytes.now (sym c.in_ok-tolerance.ensures)).0

pub returns-in_err-tolerance : goal.returns-in_err-tolerance
returns-in_err-tolerance c =
    let a = c.args in
    let p = err_from_is_err_and c.from_residual.result c.from_residual.ensures.1 in
    rw (p.1, p.2) (sym (plane_refused a.bytes.now a.w a.h a.samples a.lent (sym c.in_err-tolerance.ensures)))

pub returns-in_err-plane_tests : goal.returns-in_err-plane_tests
returns-in_err-plane_tests c =
    let a = c.args in
    let r = recipe_read a.bytes.now (sym c.in_ok-tolerance.ensures) in
    let p = err_from_is_err_and c.from_residual-in_err-plane_tests.result c.from_residual-in_err-plane_tests.ensures.1 in
    rw (p.1, p.2) (sym (plane_refused_late a.bytes.now a.w a.h a.samples a.lent r.0 (sym c.in_err-plane_tests.ensures)))

pub returns : goal.returns
returns c =
    let a = c.args in
    let r = recipe_read a.bytes.now (sym c.in_ok-tolerance.ensures) in
    sym (plane_done a.bytes.now a.w a.h a.samples a.lent r.0 (sym c.in_ok-plane_tests.ensures) ∙ ap Ok r.1)
