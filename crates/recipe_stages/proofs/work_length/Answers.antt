-- `recipe_stages::work_length` meets its contract. Assumes nothing.
use native.Mathlib.Omega.{arith}
use mathlib.Core.Bool.{true, false}
use mathlib.Core.Logic.{inl, inr}
use mathlib.Core.Path.{refl}
use Rattle.recipe_kernels.proofs.GainLaws.{taps_part}
use Rattle.recipe_stages.specs.StageBytes.{work_tests, work_length}
use Rattle.recipe_stages.proofs.ByKind.{radii_kind, position-kind}
use Rattle.recipe_stages.proofs.work_length.Goals as goal

pub length-requires : goal.length-requires
unfolding work_tests
length-requires c =
    taps_part false c.args.part.now (rw c.in-Ratios.is at c.requires)

pub length-requires-in-Reals : goal.length-requires-in-Reals
unfolding work_tests
length-requires-in-Reals c =
    taps_part true c.args.part.now (rw c.in-Reals.is at c.requires)

pub returns-in-Ratios : goal.returns-in-Ratios
unfolding work_length
returns-in-Ratios c =
    rw c.in-Ratios.is c.length.ensures

pub returns-in-Reals : goal.returns-in-Reals
unfolding work_length
returns-in-Reals c =
    rw c.in-Reals.is c.length-in-Reals.ensures

pub returns-in-Binomial : goal.returns-in-Binomial
unfolding work_length
returns-in-Binomial c =
    let b = c.args.part.now in
    elim c.in-Binomial.is [
      | inl e ↦ rw e (refl, (radii_kind b 3 (omega arith) (omega arith) (rw e at c.requires)).2, omega arith)
      | inr e ↦ rw e (refl, (radii_kind b 4 (omega arith) (omega arith) (rw e at c.requires)).2, omega arith)
    ]

pub returns-in-Rank : goal.returns-in-Rank
unfolding work_length
returns-in-Rank c =
    rw c.in-Rank.is (refl, (position-kind c.args.part.now (rw c.in-Rank.is at c.requires)).2, omega arith)

pub returns-in-Outline : goal.returns-in-Outline
unfolding work_length
returns-in-Outline c =
    rw c.in-Outline.is (refl, omega arith, omega arith)
