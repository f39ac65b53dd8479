-- `recipe_kernels::gains` meets its contract. Assumes nothing.
use mathlib.Core.List.{[], ◌∷◌}
use mathlib.Core.Path.{sym}
use Rattle.std.proofs.lemmas.Result.{err_from_is_err_and}
use Rattle.refusals.proofs.Passed.{refused_first, passed_first}
use Rattle.gain_tests.specs.Gain.{gain_test}
use Rattle.recipe_kernels.specs.Kernels.{kernel_on, gain_tests}
use Rattle.recipe_kernels.proofs.gains.Goals as goal

pub returns-in_err-gain : goal.returns-in_err-gain
unfolding gain_tests
returns-in_err-gain c =
    let a = c.args in
    let p = err_from_is_err_and c.from_residual.result c.from_residual.ensures.1 in
    rw (p.1, p.2) (refused_first (gain_test (kernel_on a.real 0 a.part.now) ∷ []) _ (rw (← c.kernel_on.ensures.0.is) (sym c.in_err-gain.ensures)))

pub returns : goal.returns
unfolding gain_tests
returns c =
    let a = c.args in
    rw (c.gain-2.ensures, c.kernel_on-2.ensures.0.is) (passed_first (gain_test (kernel_on a.real 0 a.part.now) ∷ []) _ (rw (← c.kernel_on.ensures.0.is) (sym c.in_ok-gain.ensures)))
