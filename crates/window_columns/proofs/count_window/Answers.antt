-- `window_columns::count_window` meets its contract: the columns so far. Assumes nothing.
use native.Mathlib.Omega.{arith}
use mathlib.Core.Path.{◌∙◌}
use Rattle.window_columns.specs.Columns.{column_in}
use Rattle.histograms.proofs.Counts.{length-histogram}
use Rattle.window_columns.proofs.Slide.{no_column, column-more, count_few}
use Rattle.window_columns.proofs.Placed.{length-column}
use Rattle.window_columns.proofs.count_window.Goals as goal

pub loop-i-init : goal.loop-i-init
loop-i-init c =
    c.clear.ensures ∙ no_column _ _

pub enter-requires : goal.enter-requires
enter-requires c =
    let a = c.args in
    let p = c.requires in
    let L = c.loop-i in
    (p.0, p.1, p.3, omega arith, length-histogram _ _ L.invariant, λ g. count_few (column_in a.frame a.plane.now a.rows.now a.down) L.counts a.down a.x L.i g (λ z. length-column a.frame a.plane.now a.rows.now a.down z p.1.few) p.3 (omega (arith, p.2)) L.invariant)

pub loop-i-preserved : goal.loop-i-preserved
loop-i-preserved c =
    column-more _ _ _ _ _ c.loop-i.invariant c.enter.ensures.0
