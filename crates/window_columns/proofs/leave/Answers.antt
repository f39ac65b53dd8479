-- `window_columns::leave` meets its contract: one step for a column outside; for one inside its samples in the rows inside, and one step for the rows outside. Assumes nothing.
use Prim.Native.Nat.{◌-◌}
use native.Mathlib.Omega.{arith}
use lib.ListN.{length}
use Rattle.places.proofs.PlaceLaws.{place_some, place_inside, place_none}
use Rattle.model_laws.proofs.Border.{supply-inside}
use Rattle.histograms.specs.Column.{column_of}
use Rattle.histograms.proofs.Counts.{counted-before, alike_counted, alike_all}
use Rattle.window_columns.proofs.Placed.{column_outside, column-inside, below_both, rows_inside, length-inside, few_both, front_counted}
use borrow.Author.Rules.{rules}
use Rattle.window_columns.proofs.leave.Goals as goal

pub take_alike-requires : goal.take_alike-requires
take_alike-requires c =
    let p = c.requires in
    let outside = column_outside c.args.frame c.args.plane.now c.args.rows.now c.args.down c.args.x (place_none _ c.in-None.ensures) in
    (p.2, p.4, alike_all _ _ _ (rw outside at (p.5 c.args.frame.value (omega arith))))

pub returns-in-None : goal.returns-in-None
returns-in-None c =
    let outside = column_outside c.args.frame c.args.plane.now c.args.rows.now c.args.down c.args.x (place_none _ c.in-None.ensures) in
    (rw outside c.take_alike.ensures.0, rw outside c.take_alike.ensures.1)

pub take_column-inside-requires : goal.take_column-inside-requires
take_column-inside-requires c =
    let p = c.requires in
    let inside = column-inside c.args.frame c.args.plane.now c.args.rows.now c.args.down c.args.x _ (place_some _ c.in-Some.ensures) in
    (rows_inside _ _ _ _ _ p.1 (place_inside _ (supply-inside _ _ _ p.0.width.0) c.in-Some.ensures), omega (arith, p.1.few, p.2), p.4, λ g k. front_counted _ _ _ _ (rw inside at (p.5 g k)))

pub take_alike-outside-requires : goal.take_alike-outside-requires
take_alike-outside-requires c =
    let p = c.requires in
    let inside = column-inside c.args.frame c.args.plane.now c.args.rows.now c.args.down c.args.x _ (place_some _ c.in-Some.ensures) in
    (omega (arith, p.2), search rules, alike_counted _ _ _ _ _ (omega arith) c.take_column-inside.ensures.0 (rw inside at (p.5 c.args.frame.value (omega arith))))

pub overflow_add-result : goal.overflow_add-result
overflow_add-result c =
    let a = c.args in
    omega (arith, few_both a.level _ _ (a.down - length a.rows.now) a.frame.value (column_of a.plane.now a.rows.now c.in-Some.c) c.take_column-inside.ensures.1 c.take_alike-outside.ensures.1, length-inside a.plane.now a.rows.now c.in-Some.c, c.requires.1.few, c.requires.2)

pub returns-in-Some : goal.returns-in-Some
returns-in-Some c =
    let inside = column-inside c.args.frame c.args.plane.now c.args.rows.now c.args.down c.args.x _ (place_some _ c.in-Some.ensures) in
    (rw inside (counted-before _ _ _ _ _ c.take_column-inside.ensures.0 c.take_alike-outside.ensures.0), rw inside (below_both _ _ _ _ _ c.take_column-inside.ensures.1 c.take_alike-outside.ensures.1))
