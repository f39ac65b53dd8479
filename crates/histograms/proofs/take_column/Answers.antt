-- `histograms::take_column` meets its contract: what is taken off so far. Assumes nothing.
use native.Mathlib.Nat.{le_antisymm}
use native.Mathlib.Omega.{arith}
use mathlib.Core.Path.{refl}
use lib.ListN.{length-set}
use Rattle.histograms.specs.Column.{column_of}
use Rattle.histograms.proofs.Counts.{counted_none, taken_more, still-counted}
use Rattle.histograms.proofs.Below.{below_none_of, below-one-more, few_below}
use Rattle.histograms.proofs.take_column.Goals as goal

pub loop-start-init : goal.loop-start-init
loop-start-init c =
    (counted_none _ _ c.requires.2, c.requires.2, below_none_of _ _)

pub overflow_sub-counts : goal.overflow_sub-counts
unfolding column_of
overflow_sub-counts c =
    still-counted _ _ _ (omega arith) refl _ _ _ c.loop-start-test.true c.loop-start.invariant.0 (c.requires.3 _ (omega arith))

pub overflow_add-lower : goal.overflow_add-lower
overflow_add-lower c =
    omega (arith, few_below _ _ _ _ (below-one-more _ _ _ _ c.loop-start.invariant.2 c.from-lower.ensures))

pub loop-start-preserved : goal.loop-start-preserved
unfolding column_of
loop-start-preserved c =
    let L = c.loop-start in
    let some = still-counted _ _ _ (omega arith) refl _ _ _ c.loop-start-test.true L.invariant.0 (c.requires.3 _ (omega arith)) in
    (taken_more _ _ _ (omega arith) refl _ _ _ L.invariant.1 L.invariant.0 (omega (arith, some)), simp length-set L.invariant.1, below-one-more _ _ _ _ L.invariant.2 c.from-lower.ensures)

pub returns : goal.returns
unfolding column_of
returns c =
    let all = le_antisymm c.loop-start.auto.start-index-end c.loop-start-test.false in
    (rw all at c.loop-start.invariant.0, rw all at c.loop-start.invariant.2)
