-- `recipe_stages::axis_for` meets its contract. Assumes nothing.
use native.Mathlib.Omega.{arith}
use mathlib.Core.Bool.{true, false}
use mathlib.Core.Logic.{inl, inr}
use mathlib.Core.Path.{◌∙◌, ap, subst}
use Rattle.model.specs.Kernel.{Kernel}
use Rattle.model.specs.Binomial.{binomial}
use Rattle.stage_values.specs.Ready.{Ready}
use Rattle.kernels.proofs.Sizes.{ready_light}
use Rattle.recipe_kernels.proofs.GainLaws.{taps_part, axis_limits}
use Rattle.recipe_stages.specs.StageBytes.{work_tests, kernel_for}
use Rattle.recipe_stages.proofs.ByKind.{radii_kind, radius_on}
use Rattle.recipe_stages.proofs.axis_for.Goals as goal

pub kernel_on-requires : goal.kernel_on-requires
unfolding work_tests
kernel_on-requires c =
    (c.requires.0, taps_part false c.args.part.now (rw c.in-Ratios.is at c.requires.1))

pub axis_of-requires : goal.axis_of-requires
unfolding work_tests
axis_of-requires c =
    axis_limits false c.args.part.now (λ i. (c.type_inv.part i).fits) (rw c.in-Ratios.is at c.requires.1) c.args.axis c.requires.0 c.kernel_on.ensures.0 c.kernel_on.ensures.1

pub kernel_on-requires-in-Reals : goal.kernel_on-requires-in-Reals
unfolding work_tests
kernel_on-requires-in-Reals c =
    (c.requires.0, taps_part true c.args.part.now (rw c.in-Reals.is at c.requires.1))

pub axis_of-requires-in-Reals : goal.axis_of-requires-in-Reals
unfolding work_tests
axis_of-requires-in-Reals c =
    axis_limits true c.args.part.now (λ i. (c.type_inv.part i).fits) (rw c.in-Reals.is at c.requires.1) c.args.axis c.requires.0 c.kernel_on-in-Reals.ensures.0 c.kernel_on-in-Reals.ensures.1

pub bounds-part-axis : goal.bounds-part-axis
bounds-part-axis c =
    omega (arith, c.requires.0, radii_kind c.args.part.now 3 (omega arith) (omega arith) (rw c.in-Binomial.is at c.requires.1))

pub binomial_kernel-requires : goal.binomial_kernel-requires
binomial_kernel-requires c =
    omega (arith, c.from.ensures, radius_on c.args.part.now 3 (omega arith) (omega arith) (rw c.in-Binomial.is at c.requires.1) c.args.axis c.requires.0)

pub returns-in-Ratios : goal.returns-in-Ratios
unfolding kernel_for
returns-in-Ratios c =
    (rw c.in-Ratios.is (λ _. subst (λ (K : Kernel). Ready K c.axis_of.result) c.kernel_on.ensures.0.is c.axis_of.ensures), ready_light c.axis_of.ensures)

pub returns-in-Reals : goal.returns-in-Reals
unfolding kernel_for
returns-in-Reals c =
    (rw c.in-Reals.is (λ _. subst (λ (K : Kernel). Ready K c.axis_of-in-Reals.result) c.kernel_on-in-Reals.ensures.0.is c.axis_of-in-Reals.ensures), ready_light c.axis_of-in-Reals.ensures)

pub returns-in-Binomial : goal.returns-in-Binomial
unfolding kernel_for
returns-in-Binomial c =
    let k = c.binomial_kernel.ensures in
    (rw c.in-Binomial.is (λ _. subst (λ (K : Kernel). Ready K c.axis_of-in-Binomial.result) (k.1 ∙ ap binomial c.from.ensures) c.axis_of-in-Binomial.ensures), ready_light c.axis_of-in-Binomial.ensures)

pub returns-in-Box : goal.returns-in-Box
returns-in-Box c =
    let a = c.no_axis.ensures in
    elim c.in-Box.is [
      | inl e ↦ rw e (λ h. absurd (omega (arith, h)), a)
      | inr (inl e) ↦ rw e (λ h. absurd (omega (arith, h)), a)
      | inr (inr e) ↦ rw e (λ h. absurd (omega (arith, h)), a)
    ]
