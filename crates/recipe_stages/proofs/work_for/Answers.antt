-- `recipe_stages::work_for` meets its contract. Assumes nothing.
use native.Mathlib.Omega.{arith}
use Rattle.recipe_stages.specs.StageBytes.{work_tests}
use Rattle.recipe_stages.proofs.ByKind.{radii-part, position-kind}
use Rattle.recipe_stages.proofs.work_for.Goals as goal

pub window_at-requires : goal.window_at-requires
unfolding work_tests
window_at-requires c =
    rw c.in-Box.is at c.requires

pub window_at-requires-in-Rank : goal.window_at-requires-in-Rank
window_at-requires-in-Rank c =
    radii-part c.args.part.now (rw c.in-Rank.is at c.requires)

pub word_at-requires : goal.word_at-requires
word_at-requires c =
    omega (arith, position-kind c.args.part.now (rw c.in-Rank.is at c.requires))

pub invariant_of-result : goal.invariant_of-result
invariant_of-result c =
    let p = position-kind c.args.part.now (rw c.in-Rank.is at c.requires) in
    let w = c.window_at-in-Rank.ensures in
    record { inside = rw (c.word_at.ensures.0, w.0, w.1) (p.0, p.1) }
