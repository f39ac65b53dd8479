-- `table_sizes::next_start` meets its contract: whether the ring ends is asked of entries, and shown of rows. Assumes nothing.
use native.Mathlib.Omega.{arith}
use Rattle.table_sizes.specs.Ring.{table_width, ring_rows}
use Rattle.table_sizes.proofs.Places.{place_behind, place_front, place_inside}
use Rattle.table_sizes.proofs.Tables.{ring_small}
use Rattle.table_sizes.proofs.next_start.Goals as goal

pub overflow_add-next : goal.overflow_add-next
overflow_add-next c =
    let a = c.args in
    let p = c.requires in
    let inside = place_inside (ring_rows a.window.s) (table_width a.w a.window.r) (omega arith) p.1.0 in
    record { fits = rw c.table_width.ensures (omega (arith, p.1.1, inside, ring_small a.w a.window.r a.window.s p.0 a.window.near.0 a.window.near.1)) }

pub returns-then-next-ring_size : goal.returns-then-next-ring_size
returns-then-next-ring_size c =
    let a = c.args in
    λ y e. rw (c.table_width.ensures, e) (place_behind (ring_rows a.window.s) (table_width a.w a.window.r) y (rw (c.table_width.ensures, c.ring_size.ensures, e) at c.if-next-ring_size.true))

pub returns-else-next-ring_size : goal.returns-else-next-ring_size
returns-else-next-ring_size c =
    let a = c.args in
    λ y e. place_front (ring_rows a.window.s) (table_width a.w a.window.r) (omega arith) y (omega arith) (rw (c.table_width.ensures, c.ring_size.ensures, e) at c.if-next-ring_size.false)
