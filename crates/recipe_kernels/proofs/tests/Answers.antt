-- `recipe_kernels::tests` meets its contract. Assumes nothing.
use mathlib.Core.Path.{sym, ◌∙◌}
use Rattle.std.proofs.lemmas.Result.{err_from_is_err_and}
use Rattle.tap_fields.specs.TapFields.{tap_tests}
use Rattle.recipe_kernels.specs.Kernels.{gain_tests, weighted_tests}
use Rattle.refusals.proofs.Passed.{refused_first, passed_first}
use Rattle.recipe_kernels.proofs.tests.Goals as goal

pub returns-in_err-fields : goal.returns-in_err-fields
unfolding weighted_tests
returns-in_err-fields c =
    let p = err_from_is_err_and c.from_residual.result c.from_residual.ensures.1 in
    rw (p.1, p.2) (refused_first (tap_tests c.args.real c.args.part.now) _ (sym c.in_err-fields.ensures))

pub returns : goal.returns
unfolding weighted_tests
returns c =
    let a = c.args in
    c.gains.ensures ∙ passed_first (tap_tests a.real a.part.now) (gain_tests a.real a.part.now) (sym c.in_ok-fields.ensures)
