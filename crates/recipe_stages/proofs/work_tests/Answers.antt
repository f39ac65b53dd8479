-- `recipe_stages::work_tests` meets its contract. Assumes nothing.
use mathlib.Core.Path.{sym, ◌∙◌}
use mathlib.Core.Logic.{inl, inr}
use Rattle.std.proofs.lemmas.Result.{err_from_is_err_and}
use Rattle.refusals.specs.Refusal.{verdict}
use Rattle.refusals.proofs.Passed.{refused_first, passed_first}
use Rattle.stage_fields.specs.StageFields.{radius_tests, position_tests}
use Rattle.recipe_stages.specs.StageBytes.{work_tests}
use Rattle.recipe_stages.proofs.work_tests.Goals as goal

pub returns-in-Ratios : goal.returns-in-Ratios
unfolding work_tests
returns-in-Ratios c =
    rw c.in-Ratios.is c.tests.ensures

pub returns-in-Reals : goal.returns-in-Reals
unfolding work_tests
returns-in-Reals c =
    rw c.in-Reals.is c.tests-in-Reals.ensures

pub returns-in-Binomial : goal.returns-in-Binomial
unfolding work_tests
returns-in-Binomial c =
    elim c.in-Binomial.is [ inl e ↦ rw e c.radii.ensures | inr e ↦ rw e c.radii.ensures ]

pub returns-in_err-radii-in-Rank : goal.returns-in_err-radii-in-Rank
unfolding work_tests
returns-in_err-radii-in-Rank c =
    let p = err_from_is_err_and c.from_residual.result c.from_residual.ensures.1 in
    rw (p.1, p.2, c.in-Rank.is) (refused_first (radius_tests c.args.part.now) _ (sym c.in_err-radii-in-Rank.ensures))

pub returns-in_ok-radii-in-Rank : goal.returns-in_ok-radii-in-Rank
unfolding work_tests
returns-in_ok-radii-in-Rank c =
    rw c.in-Rank.is (c.position.ensures ∙ passed_first (radius_tests c.args.part.now) (position_tests c.args.part.now) (sym c.in_ok-radii-in-Rank.ensures))

pub returns-in-Outline : goal.returns-in-Outline
unfolding work_tests verdict
returns-in-Outline c =
    rw c.in-Outline.is
