-- `exact_boxes::box_near` meets its contract: all rows so far are near, and the first that is not decides. Assumes nothing.
use Prim.Native.Nat.{◌+◌, ◌*◌, ◌-◌}
use native.Mathlib.Omega.{arith}
use mathlib.Core.Bool.{not}
use mathlib.Core.Path.{ap}
use lib.ListN.{length-drop}
use lib.IntN.{pos}
use Rattle.model.specs.Window.{area}
use Rattle.near_rows.proofs.RowLaws.{no_rows, one-row-more, row-not-near, all-rows-near}
use Rattle.lists.proofs.Tabulate.{filled_at}
use Rattle.exact_boxes.proofs.RowLaws.{array_tail, columns_fit, row_sums}
use borrow.Author.Rules.{rules}
use Rattle.exact_boxes.proofs.box_near.Invariants.{at}
use Rattle.exact_boxes.proofs.box_near.Goals as goal

pub loop-v-init : goal.loop-v-init
loop-v-init c =
    let a = c.args in
    let f = a.frame in
    let w = a.window in
    (λ x b. filled_at _ (f.width + 30) _ _ (pos 0) x c.first_columns.ensures b, no_rows a.c ((2 * w.r + 1) * (2 * w.s + 1)) f.width f.height a.channel a.received.now (at f w.r w.s a.plane.now))

pub window_sums-requires : goal.window_sums-requires
window_sums-requires c =
    let a = c.args in
    let p = c.requires in
    let w = a.window in
    let L = c.loop-v in
    let tail = array_tail (15 - w.r) 8224 L.sums (search rules) in (
      omega (arith, w.near.0),
      p.0.width.1,
      rw (tail, length-drop) (omega (arith, p.0.width.1, w.near.0)),
      search rules,
      λ i b. rw tail (columns_fit a.frame a.plane.now L.sums w.r w.s L.v w.near.0 w.near.1 L.invariant.0 (omega (arith, c.well_formed)) (λ j. omega (arith, (c.type_inv.plane j).fits)) i b),
    )

pub returns-then-not-row_near : goal.returns-then-not-row_near
unfolding area
returns-then-not-row_near c =
    let a = c.args in
    let w = a.window in
    let L = c.loop-v in
    let n = (2 * w.r + 1) * (2 * w.s + 1) in
    let sums = row_sums a.frame a.plane.now L.sums w.r w.s L.v w.near.0 w.near.1 L.invariant.0 8224 L.wide _ (search rules) c.window_sums.ensures in
    row-not-near a.c n a.frame.width a.frame.height a.channel a.received.now (at a.frame w.r w.s a.plane.now) L.v _ _ sums c.row_near.ensures c.loop-v-test.true (ap not c.if-not-row_near.true)

pub loop-v-preserved : goal.loop-v-preserved
loop-v-preserved c =
    let a = c.args in
    let w = a.window in
    let L = c.loop-v in
    let n = (2 * w.r + 1) * (2 * w.s + 1) in
    let sums = row_sums a.frame a.plane.now L.sums w.r w.s L.v w.near.0 w.near.1 L.invariant.0 8224 L.wide _ (search rules) c.window_sums.ensures in
    (c.next_columns.ensures, one-row-more a.c n a.frame.width a.frame.height a.channel a.received.now (at a.frame w.r w.s a.plane.now) L.v _ _ sums c.row_near.ensures L.invariant.1 (ap not c.if-not-row_near.false))

pub returns : goal.returns
unfolding area
returns c =
    let a = c.args in
    let w = a.window in
    let L = c.loop-v in
    all-rows-near a.c ((2 * w.r + 1) * (2 * w.s + 1)) a.frame.width a.frame.height a.channel a.received.now (at a.frame w.r w.s a.plane.now) L.v L.auto.v-end c.loop-v-test.false L.invariant.1
