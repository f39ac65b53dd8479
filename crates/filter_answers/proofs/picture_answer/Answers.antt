-- `filter_answers::picture_answer` meets its contract: the recipe's tests, then the limit on stages, then the still's. Assumes nothing.
use native.Mathlib.Omega.{arith}
use mathlib.Core.Path.{sym, ◌∙◌}
use Rattle.std.proofs.lemmas.Result.{err_from_is_err_and}
use Rattle.refusals.proofs.Passed.{passed_all}
use Rattle.recipe.proofs.Accepted.{accepted}
use Rattle.filter_answers.proofs.FileAccepted.{picture-refused, picture_limited, picture_left}
use Rattle.filter_answers.proofs.picture_answer.Goals as goal

pub returns-in_err-recipe : goal.returns-in_err-recipe
returns-in_err-recipe c =
    let a = c.args in
    let p = err_from_is_err_and c.from_residual.result c.from_residual.ensures.1 in
    rw (p.1, p.2) (sym (picture-refused a.limits a.bytes.now a.still.now (sym c.in_err-recipe.ensures)))

pub returns-then-limits-from : goal.returns-then-limits-from
returns-then-limits-from c =
    let a = c.args in
    let r = accepted a.bytes.now (sym c.in_ok-recipe.ensures) in
    sym (picture_limited a.limits a.bytes.now a.still.now (passed_all _ r.tests) (omega arith))

pub returns : goal.returns
returns c =
    let a = c.args in
    let r = accepted a.bytes.now (sym c.in_ok-recipe.ensures) in
    c.still_answer.ensures ∙ sym (picture_left a.limits a.bytes.now a.still.now (passed_all _ r.tests) (omega arith) ∙ rw (← r.worth))
