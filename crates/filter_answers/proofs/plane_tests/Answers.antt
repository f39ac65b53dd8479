-- `filter_answers::plane_tests` meets its contract: one test after the other. Assumes nothing.
use native.Mathlib.Nat.{mul-le-mul}
use native.Mathlib.Omega.{arith}
use mathlib.Core.Path.{sym, ◌∙◌}
use borrow.Author.Tests.{le-leb, lt-leb, eq-eqb, ne_eqb}
use Rattle.refusals.specs.Refusal.{verdict}
use Rattle.picture_sizes.proofs.PictureSizeLaws.{side-le}
use Rattle.room.proofs.Rest.{rest_first}
use Rattle.filter_answers.specs.PlaneAnswer.{plane_tests}
use Rattle.filter_answers.proofs.plane_tests.Goals as goal
use Rattle.filter_answers.proofs.plane_tests.Goals.{then-not-is_side-via-then-not-is_side, then-not-is_side-via-else-not-is_side+then-not-is_side-2}

pub bounds-recipe-0 : goal.bounds-recipe-0
bounds-recipe-0 c =
    omega (arith, (rest_first c.args.recipe.now c.requires).0)

pub returns-then-recipe-ne1 : goal.returns-then-recipe-ne1
unfolding verdict plane_tests
returns-then-recipe-ne1 c =
    rw (ne_eqb _ _ c.if-recipe-ne1.true)

pub returns-then-not-is_side : goal.returns-then-not-is_side
unfolding verdict plane_tests
returns-then-not-is_side c =
    elim c.then-not-is_side.branch [
      | then-not-is_side-via-then-not-is_side s ↦
          let w = sym c.is_side.ensures ∙ s.if-not-is_side.true in
          rw (eq-eqb _ _ c.if-recipe-ne1.false, w)
      | then-not-is_side-via-else-not-is_side+then-not-is_side-2 s ↦
          let w = sym c.is_side.ensures ∙ s.if-not-is_side.false in
          let h = sym s.is_side-else-not-is_side.ensures ∙ s.if-not-is_side-2.true in
          rw (eq-eqb _ _ c.if-recipe-ne1.false, w, h)
    ]

pub overflow_mul-size : goal.overflow_mul-size
overflow_mul-size c =
    let w = side-le _ (sym c.is_side.ensures ∙ c.if-not-is_side.false) in
    let h = side-le _ (sym c.is_side-else-not-is_side.ensures ∙ c.if-not-is_side-2.false) in
    record { fits = omega (arith, mul-le-mul {n₂ = 8192} {m₂ = 8192} w.1 h.1) }

pub returns-then-samples-size : goal.returns-then-samples-size
unfolding verdict plane_tests
returns-then-samples-size c =
    let w = sym c.is_side.ensures ∙ c.if-not-is_side.false in
    let h = sym c.is_side-else-not-is_side.ensures ∙ c.if-not-is_side-2.false in
    rw (eq-eqb _ _ c.if-recipe-ne1.false, w, h, lt-leb _ _ c.if-samples-size.true)

pub returns-then-size-samples : goal.returns-then-size-samples
unfolding verdict plane_tests
returns-then-size-samples c =
    let w = sym c.is_side.ensures ∙ c.if-not-is_side.false in
    let h = sym c.is_side-else-not-is_side.ensures ∙ c.if-not-is_side-2.false in
    rw (eq-eqb _ _ c.if-recipe-ne1.false, w, h, le-leb _ _ c.if-samples-size.false, lt-leb _ _ c.if-size-samples.true)

pub tests-requires : goal.tests-requires
tests-requires c =
    let w = side-le _ (sym c.is_side.ensures ∙ c.if-not-is_side.false) in
    let h = side-le _ (sym c.is_side-else-not-is_side.ensures ∙ c.if-not-is_side-2.false) in
    (w.1, h.1, c.requires)

pub returns : goal.returns
unfolding verdict plane_tests
returns c =
    let w = sym c.is_side.ensures ∙ c.if-not-is_side.false in
    let h = sym c.is_side-else-not-is_side.ensures ∙ c.if-not-is_side-2.false in
    c.tests.ensures ∙ rw (eq-eqb _ _ c.if-recipe-ne1.false, w, h, le-leb _ _ c.if-samples-size.false, le-leb _ _ c.if-size-samples.false)
