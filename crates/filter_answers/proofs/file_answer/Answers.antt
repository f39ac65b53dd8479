-- `filter_answers::file_answer` meets its contract: the lent buffers are tested last. Assumes nothing.
use mathlib.Core.Path.{sym}
use Rattle.std.proofs.lemmas.Result.{err_from_is_err_and}
use Rattle.filter_answers.specs.FileAnswer.{file_answer}
use Rattle.filter_answers.proofs.FileAccepted.{answer_asked, file_refused, file_done}
use Rattle.filter_answers.proofs.file_answer.Goals as goal

pub lent_tests-requires : goal.lent_tests-requires
lent_tests-requires c =
    let a = c.args in
    answer_asked a.limits a.recipe.now a.still.now _ (sym c.in_ok-picture.ensures)

pub returns-in_err-picture : goal.returns-in_err-picture
unfolding file_answer
returns-in_err-picture c =
    let p = err_from_is_err_and c.from_residual.result c.from_residual.ensures.1 in
    rw (p.1, p.2, ← c.in_err-picture.ensures)

pub returns-in_err-lent_tests : goal.returns-in_err-lent_tests
returns-in_err-lent_tests c =
    let a = c.args in
    let p = err_from_is_err_and c.from_residual-in_err-lent_tests.result c.from_residual-in_err-lent_tests.ensures.1 in
    rw (p.1, p.2) (sym (file_refused a.limits a.recipe.now a.still.now a.lent (sym c.in_ok-picture.ensures) (sym c.in_err-lent_tests.ensures)))

pub returns : goal.returns
returns c =
    let a = c.args in
    sym (file_done a.limits a.recipe.now a.still.now a.lent (sym c.in_ok-picture.ensures) (sym c.in_ok-lent_tests.ensures))
