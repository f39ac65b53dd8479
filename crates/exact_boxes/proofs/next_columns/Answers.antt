-- `exact_boxes::next_columns` meets its contract: a row is taken out, and another put in. Assumes nothing.
use Prim.Native.Nat.{◌+◌, ◌-◌}
use native.Mathlib.Omega.{arith}
use lib.IntN.{pos, negsuc}
use Rattle.frame.specs.Padded.{padded}
use Rattle.exact_boxes.proofs.ColumnLaws.{still_long, tap-at, column_small, left_small, column_next}
use Rattle.exact_boxes.proofs.next_columns.Goals as goal

pub returns : goal.returns
returns c =
    let a = c.args in
    let f = a.frame in
    let p = c.requires in
    let n = f.width + 30 in
    λ x b. rw (
      tap-at n (λ x. padded f a.plane.now x (16 + a.s + a.v)) (pos 1) _ _ c.add_tap.new.sums c.add_tap-2.new.sums c.padded_row-2.ensures c.add_tap-2.ensures x b,
      tap-at n (λ x. padded f a.plane.now x (15 - a.s + a.v)) (negsuc 0) _ _ a.sums.now _ c.padded_row.ensures c.add_tap.ensures x b,
      p.5 x b,
    ) (column_next f a.plane.now a.s x a.v p.1)

pub add_tap-requires : goal.add_tap-requires
add_tap-requires c =
    let a = c.args in
    let p = c.requires in (
      p.4,
      still_long _ _ _ _ c.padded_row.ensures p.3,
      omega arith,
      λ u b. rw (p.5 u b) (omega (arith, column_small a.frame a.plane.now a.s (omega (arith, c.well_formed)) (λ i. omega (arith, (c.type_inv.plane i).fits)) u a.v p.1)),
    )

pub add_tap-requires-2 : goal.add_tap-requires-2
add_tap-requires-2 c =
    let a = c.args in
    let p = c.requires in
    let row = c.padded_row.ensures in
    let out = c.add_tap.ensures in (
      still_long _ _ _ _ out p.4,
      still_long _ _ _ _ c.padded_row-2.ensures (still_long _ _ _ _ row p.3),
      omega arith,
      λ u b. rw (tap-at (a.frame.width + 30) (λ x. padded a.frame a.plane.now x (15 - a.s + a.v)) (negsuc 0) _ _ a.sums.now _ row out u b, p.5 u b)
          (omega (arith, left_small a.frame a.plane.now a.s (omega (arith, c.well_formed)) (λ i. omega (arith, (c.type_inv.plane i).fits)) u a.v p.1)),
    )
