-- `file_filter::filter_file` meets its contract: by its answer. Assumes nothing.
use native.Mathlib.Omega.{arith}
use mathlib.Core.Path.{refl, sym, ap, ◌∙◌}
use Rattle.std.specs.Prelude.{Err}
use Rattle.std.proofs.lemmas.Result.{err_from_is_err_and}
use Rattle.filter_answers.specs.FileAnswer.{file_answer}
use Rattle.file_filter.proofs.FilePromise.{file_refuses, file_shown, file_filters}
use Rattle.file_filter.proofs.filter_file.Goals as goal

pub run-requires : goal.run-requires
run-requires c =
    let a = c.args in
    let e = sym c.in_ok-answer.was ∙ c.file_answer.ensures ∙ ap (file_answer a.limits a.recipe.now a.still.now) c.of-lent.ensures in
    let p = file_shown a.limits a.recipe.now a.still.now a.work.now a.rows.now a.sums.now a.out.now _ e refl in
    (p.suffices, p.channels.0, p.channels.1, p.raster, omega (arith, p.output, p.size_is))

pub returns-in_err-answer : goal.returns-in_err-answer
returns-in_err-answer c =
    let a = c.args in
    let p = err_from_is_err_and c.from_residual.result c.from_residual.ensures.1 in
    let e = p.1 ∙ ap Err p.2 ∙ sym c.in_err-answer.was ∙ c.file_answer.ensures ∙ ap (file_answer a.limits a.recipe.now a.still.now) c.of-lent.ensures in
    file_refuses a.limits a.recipe.now a.still.now a.work.now a.rows.now a.sums.now a.out.now _ e p.1

pub returns : goal.returns
returns c =
    let a = c.args in
    let e = sym c.in_ok-answer.was ∙ c.file_answer.ensures ∙ ap (file_answer a.limits a.recipe.now a.still.now) c.of-lent.ensures in
    file_filters a.limits a.recipe.now a.still.now a.work.now a.rows.now a.sums.now a.out.now _ e refl
    (λ i. omega (arith, (c.type_inv.recipe i).fits)) (λ i. omega (arith, (c.type_inv.still i).fits)) c.run.ensures
