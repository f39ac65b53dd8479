-- `histograms::add_column` meets its contract: what is counted so far. Assumes nothing.
use Prim.Native.Nat.{◌+◌}
use native.Mathlib.Nat.{le_antisymm}
use native.Mathlib.Omega.{arith}
use mathlib.Core.Path.{refl}
use lib.ListN.{get_or, length-set}
use Rattle.histograms.specs.Column.{column_of}
use Rattle.lists.proofs.Tabulate.{length-tabulate}
use Rattle.histograms.proofs.Counts.{counted_none, counted-more, counted-le}
use Rattle.histograms.proofs.Below.{below_none_of, below-one-more, few_below}
use Rattle.histograms.proofs.add_column.Goals as goal

pub loop-start-init : goal.loop-start-init
loop-start-init c =
    (counted_none _ _ c.requires.2, c.requires.2, below_none_of _ _)

pub overflow_add-counts : goal.overflow_add-counts
overflow_add-counts c =
    let a = c.args in
    let g = get_or a.plane.now (get_or a.rows.now c.loop-start.start-index 0 + a.c) 0 in
    omega (arith, rw (length-tabulate _ c.loop-start.start-index) at (counted-le _ _ _ g c.loop-start.invariant.0), c.requires.3 g, c.requires.1)

pub overflow_add-lower : goal.overflow_add-lower
overflow_add-lower c =
    omega (arith, few_below _ _ _ _ (below-one-more _ _ _ _ c.loop-start.invariant.2 c.from-lower.ensures))

pub loop-start-preserved : goal.loop-start-preserved
loop-start-preserved c =
    let L = c.loop-start in
    (counted-more _ _ _ (omega arith) refl _ _ _ L.invariant.0 refl, simp length-set L.invariant.1, below-one-more _ _ _ _ L.invariant.2 c.from-lower.ensures)

pub returns : goal.returns
unfolding column_of
returns c =
    let all = le_antisymm c.loop-start.auto.start-index-end c.loop-start-test.false in
    (rw all at c.loop-start.invariant.0, rw all at c.loop-start.invariant.2)
