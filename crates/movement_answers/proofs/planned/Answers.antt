-- `movement_answers::planned` meets its contract: the limit, each run's own tests, and then those of both. Assumes nothing.
use native.Mathlib.Omega.{arith}
use mathlib.Core.Path.{sym}
use borrow.Author.Tests.{le-leb, lt-leb}
use Rattle.std.proofs.lemmas.Result.{err_from_is_err_and}
use Rattle.filter_answers.specs.Limits.{archive}
use Rattle.filter_answers.proofs.FileAccepted.{answer_asked}
use Rattle.movement_answers.specs.Run.{run}
use Rattle.movement_answers.proofs.Plans.{plane_small, raster_small, plan_limit, plan_first, plan_second, plan_refused, plan_done}
use Rattle.movement_answers.proofs.planned.Goals as goal

pub returns-then-limit-gt255 : goal.returns-then-limit-gt255
returns-then-limit-gt255 c =
    sym (plan_limit _ _ _ (lt-leb _ _ c.if-limit-gt255.true))

pub returns-in_err-first : goal.returns-in_err-first
returns-in_err-first c =
    let p = err_from_is_err_and c.from_residual.result c.from_residual.ensures.1 in
    rw (p.1, p.2) (sym (plan_first _ _ _ (le-leb _ _ c.if-limit-gt255.false) (sym c.in_err-first.ensures)))

pub returns-in_err-second : goal.returns-in_err-second
returns-in_err-second c =
    let p = err_from_is_err_and c.from_residual-in_err-second.result c.from_residual-in_err-second.ensures.1 in
    rw (p.1, p.2) (sym (plan_second _ _ _ (le-leb _ _ c.if-limit-gt255.false) (sym c.in_ok-first.ensures) (sym c.in_err-second.ensures)))

pub pair_tests-requires : goal.pair_tests-requires
pair_tests-requires c =
    let a = c.args in
    (answer_asked archive a.recipe1.now a.still1.now _ (sym c.in_ok-first.ensures), answer_asked archive a.recipe2.now a.still2.now _ (sym c.in_ok-second.ensures))

pub returns-in_err-pair_tests : goal.returns-in_err-pair_tests
returns-in_err-pair_tests c =
    let p = err_from_is_err_and c.from_residual-in_err-pair_tests.result c.from_residual-in_err-pair_tests.ensures.1 in
    rw (p.1, p.2)
    (sym (plan_refused _ _ _ (le-leb _ _ c.if-limit-gt255.false) (sym c.in_ok-first.ensures) (sym c.in_ok-second.ensures) (sym c.in_err-pair_tests.ensures)))

pub overflow_mul-result : goal.overflow_mul-result
overflow_mul-result c =
    let a = c.args in
    record { fits = omega (arith, plane_small (run a.recipe1.now a.still1.now a.lent1) (sym c.in_ok-first.ensures)) }

pub overflow_mul-result-2 : goal.overflow_mul-result-2
overflow_mul-result-2 c =
    let a = c.args in
    record { fits = omega (arith, raster_small (run a.recipe1.now a.still1.now a.lent1) (sym c.in_ok-first.ensures)) }

pub returns : goal.returns
returns c =
    sym (plan_done _ _ _ (le-leb _ _ c.if-limit-gt255.false) (sym c.in_ok-first.ensures) (sym c.in_ok-second.ensures) (sym c.in_ok-pair_tests.ensures))
