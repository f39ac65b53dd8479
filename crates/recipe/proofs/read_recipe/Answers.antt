-- `recipe::read_recipe` meets its contract. Assumes nothing.
use native.Mathlib.Nat.{sub-zero}
use native.Mathlib.Omega.{arith}
use mathlib.Core.Path.{sym, ap, ◌∙◌}
use mathlib.Core.Logic.{inl, inr}
use lib.ListN.{length, length-drop}
use borrow.Author.Tests.{le-leb, lt-leb}
use Rattle.std.proofs.lemmas.Result.{err_from_is_err_and}
use Rattle.lists.proofs.Part.{tail_mid}
use Rattle.model.specs.Tolerance.{tolerance}
use Rattle.recipe_bytes.specs.Bytes.{at, there}
use Rattle.recipe_bytes.proofs.ByteLaws.{byte_read, byte_past}
use Rattle.recipe.specs.Recipe.{recipe_tests, recipe_stages, recipe_of}
use Rattle.recipe.proofs.Chain.{stage-refused, stage-more, stages_long, stages_done}
use Rattle.recipe.proofs.read_recipe.Goals as goal

pub returns-in_err-count : goal.returns-in_err-count
unfolding recipe_of recipe_tests there
returns-in_err-count c =
    let p = err_from_is_err_and c.from_residual.result c.from_residual.ensures.1 in
    let none = byte_past _ _ c.in_err-count.ensures in
    rw (p.1, p.2, none.1, lt-leb 1 (length c.args.recipe.now) (omega arith))

pub returns-then-count-lt1 : goal.returns-then-count-lt1
unfolding recipe_of recipe_tests there
returns-then-count-lt1 c =
    let b = c.args.recipe.now in
    let read = byte_read _ _ c.in_ok-count.ensures in
    rw (le-leb 1 (length b) (omega arith))
    (elim c.then-count-lt1.either [
      | inl none ↦ rw (lt-leb 1 (at b 0) (omega arith))
      | inr many ↦ rw (le-leb 1 (at b 0) (omega arith), lt-leb (at b 0) 8 (omega arith))
    ])

pub loop-init : goal.loop-init
unfolding recipe_of recipe_tests recipe_stages there tolerance
loop-init c =
    let b = c.args.recipe.now in
    let e = c.start-total.ensures in
    let read = byte_read _ _ c.in_ok-count.ensures in
    record {
      inside = omega arith;
      cut = rw e (omega arith);
      rest = rw (e, read.1, sub-zero, le-leb 1 (length b) (omega arith), le-leb 1 (at b 0) (omega arith), le-leb (at b 0) 8 (omega arith));
    }

pub slice_bounds-part-count : goal.slice_bounds-part-count
slice_bounds-part-count c =
    c.loop.invariant.inside

pub slice_bounds-part-start : goal.slice_bounds-part-start
slice_bounds-part-start c =
    c.loop.invariant.inside

pub returns-in_err-tests : goal.returns-in_err-tests
returns-in_err-tests c =
    let L = c.loop in
    let b = c.args.recipe.now in
    let p = err_from_is_err_and c.from_residual-in_err-tests.result c.from_residual-in_err-tests.ensures.1 in
    rw (p.1, p.2) (sym (L.invariant.rest ∙ stage-refused b _ L.counter L.at L.total.units c.loop-test.true (rw (← tail_mid L.at b) (sym c.in_err-tests.ensures))))

pub after-total-requires : goal.after-total-requires
after-total-requires c =
    (c.loop.invariant.cut, (_, c.read_stage.ensures.0))

pub loop-preserved : goal.loop-preserved
loop-preserved c =
    let L = c.loop in
    let b = c.args.recipe.now in
    let m = tail_mid L.at b in
    let s = c.stage_length-at.ensures in
    record {
      inside = omega (arith, s.1, ap length m, length-drop L.at b, L.invariant.inside);
      cut = c.after-total.ensures.0;
      rest = L.invariant.rest ∙ stage-more b _ L.counter L.at L.total.units c.loop-test.true (rw (← m) (sym c.in_ok-tests.ensures)) ∙ rw (c.after-total.ensures.1 _ c.read_stage.ensures.0, s.0, m);
    }

pub returns-then-at-recipe : goal.returns-then-at-recipe
returns-then-at-recipe c =
    sym (c.loop.invariant.rest ∙ stages_long _ _ _ _ _ c.loop-test.false c.if-at-recipe.true)

pub returns : goal.returns
returns c =
    sym (c.loop.invariant.rest ∙ stages_done _ _ _ _ _ c.loop-test.false c.if-at-recipe.false)
