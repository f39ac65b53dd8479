-- `area_tables::next_row` meets its contract: the sums along a padded row, from the column where the extended frame starts, in the next row's place. Assumes nothing.
use Prim.Native.Nat.{◌+◌, ◌-◌}
use native.Mathlib.Omega.{arith}
use lib.ListN.{length, length-drop}
use Rattle.lists.proofs.Part.{tail_mid}
use Rattle.lists.proofs.StoredAt.{stored}
use Rattle.area_tables.proofs.Held.{place_fits, next_apart, held_more}
use Rattle.area_tables.proofs.next_row.Goals as goal

pub add_row-requires : goal.add_row-requires
add_row-requires c =
    let a = c.args in
    let p = c.requires in
    let w = a.frame.width in
    let x = a.window in
    let row = c.padded_row.new.dst in
    rw (c.table_width-width.ensures, c.next_start-to.ensures a.k p.2, p.2)
    (place_fits w x.r x.s a.k p.5, place_fits w x.r x.s (a.k + 1) p.5, next_apart w x.r x.s a.k, rw (tail_mid (15 - x.r) row, length-drop) (omega (arith, x.near.0, p.3)), omega (arith, x.near.0, p.4))

pub returns : goal.returns
unfolding stored
returns c =
    let a = c.args in
    let p = c.requires in
    let x = a.window in
    let to = c.next_start-to.ensures a.k p.2 in
    let row = c.padded_row.new.dst in
    (to, held_more a.frame x.r x.s a.plane.now row _ (length row - (15 - x.r)) a.k a.sums.now _ x.near.0 (omega (arith, x.near.0, p.3)) p.5 p.6 c.padded_row.ensures (rw (c.table_width-width.ensures, to, p.2) at c.add_row.ensures))
