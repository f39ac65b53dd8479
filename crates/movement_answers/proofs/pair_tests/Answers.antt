-- `movement_answers::pair_tests` meets its contract: the sizes, then what is lent to either run. Assumes nothing.
use mathlib.Core.Path.{sym}
use borrow.Author.Tests.{not-true, not-false}
use Rattle.refusals.specs.Refusal.{verdict}
use Rattle.std.proofs.lemmas.Result.{err_from_is_err_and}
use Rattle.movement_answers.proofs.Plans.{lent_first, lent_second}
use Rattle.movement_answers.proofs.pair_tests.Goals as goal

pub returns-then-ne : goal.returns-then-ne
unfolding verdict
returns-then-ne c =
    rw (not-true _ (sym c.if-ne.ensures))

pub returns-in_err-lent_tests : goal.returns-in_err-lent_tests
returns-in_err-lent_tests c =
    let p = err_from_is_err_and c.from_residual.result c.from_residual.ensures.1 in
    rw (p.1, p.2) (lent_first _ _ (not-false _ (sym c.if-ne.ensures)) c.in_err-lent_tests.ensures)

pub returns : goal.returns
returns c =
    lent_second _ _ (not-false _ (sym c.if-ne.ensures)) c.in_ok-lent_tests.ensures c.lent_tests-2.ensures
