-- `window_columns::enter` meets its contract: one step for a column outside; for one inside its samples in the rows inside, and one step for the rows outside. Assumes nothing.
use Prim.Native.Nat.{◌-◌}
use native.Mathlib.Omega.{arith}
use lib.ListN.{length}
use Rattle.places.proofs.PlaceLaws.{place_some, place_inside, place_none}
use Rattle.model_laws.proofs.Border.{supply-inside}
use Rattle.histograms.specs.Column.{column_of}
use Rattle.histograms.proofs.Counts.{counted-le, counted_then, length-counted}
use Rattle.window_columns.proofs.Placed.{column_outside, column-inside, below_both, rows_inside, length-inside, few_both}
use Rattle.window_columns.proofs.enter.Goals as goal

pub returns-in-None : goal.returns-in-None
returns-in-None c =
    let outside = column_outside c.args.frame c.args.plane.now c.args.rows.now c.args.down c.args.x (place_none _ c.in-None.ensures) in
    (rw outside c.add_alike.ensures.0, rw outside c.add_alike.ensures.1)

pub add_column-inside-requires : goal.add_column-inside-requires
add_column-inside-requires c =
    let p = c.requires in
    (rows_inside _ _ _ _ _ p.1 (place_inside _ (supply-inside _ _ _ p.0.width.0) c.in-Some.ensures), omega (arith, p.1.few, p.2), p.4, p.5)

pub add_alike-outside-requires : goal.add_alike-outside-requires
add_alike-outside-requires c =
    let p = c.requires in
    let e = c.add_column-inside.ensures.0 in
    (omega (arith, p.2), rw e (length-counted _ _), λ g. omega (arith, counted-le _ _ _ g e, length-inside c.args.plane.now c.args.rows.now c.in-Some.c, p.5 g, p.1.few, p.2))

pub overflow_add-result : goal.overflow_add-result
overflow_add-result c =
    let a = c.args in
    omega (arith, few_both a.level _ _ (a.down - length a.rows.now) a.frame.value (column_of a.plane.now a.rows.now c.in-Some.c) c.add_column-inside.ensures.1 c.add_alike-outside.ensures.1, length-inside a.plane.now a.rows.now c.in-Some.c, c.requires.1.few, c.requires.2)

pub returns-in-Some : goal.returns-in-Some
returns-in-Some c =
    let inside = column-inside c.args.frame c.args.plane.now c.args.rows.now c.args.down c.args.x _ (place_some _ c.in-Some.ensures) in
    (rw inside (counted_then _ _ _ _ _ c.add_column-inside.ensures.0 c.add_alike-outside.ensures.0), rw inside (below_both _ _ _ _ _ c.add_column-inside.ensures.1 c.add_alike-outside.ensures.1))
