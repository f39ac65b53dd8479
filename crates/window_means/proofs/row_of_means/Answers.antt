-- `window_means::row_of_means` meets its contract: the row after the lower edge is the upper one. Assumes nothing.
use Prim.Native.Nat.{◌+◌, ◌*◌}
use native.Mathlib.Omega.{arith}
use lib.ListN.{length-drop}
use Rattle.lists.proofs.Part.{tail_mid}
use Rattle.model.specs.Window as Model
use Rattle.model_laws.proofs.Window.{area-le}
use Rattle.window_means.specs.WindowCorners.{corners_at}
use Rattle.window_means.proofs.Edges.{upper_edge, upper_fits, lower_fits}
use Rattle.window_means.proofs.row_of_means.Goals as goal

pub next_start-upper-requires : goal.next_start-upper-requires
next_start-upper-requires c =
    let p = c.requires in
    (p.0, (p.4.0 + (2 * c.args.window.s + 1), p.4.1))

-- the upper edge lies in the sums
pub slice_bounds-mean_row-count : goal.slice_bounds-mean_row-count
slice_bounds-mean_row-count c =
    let a = c.args in
    let p = c.requires in
    let v = p.4.0 in
    let eu = c.next_start-upper.ensures (v + (2 * a.window.s + 1)) p.4.1 in
    omega (arith, upper_fits a.w a.window.r a.window.s v a.lower _ p.4.1 eu p.1)

pub offset_bounds-sums-upper : goal.offset_bounds-sums-upper
offset_bounds-sums-upper c =
    let a = c.args in
    let p = c.requires in
    let v = p.4.0 in
    let eu = c.next_start-upper.ensures (v + (2 * a.window.s + 1)) p.4.1 in
    record { fits = omega (arith, upper_fits a.w a.window.r a.window.s v a.lower _ p.4.1 eu p.1) }

pub slice_bounds-mean_row-start : goal.slice_bounds-mean_row-start
slice_bounds-mean_row-start c = slice_bounds-mean_row-count c

-- and so does the lower one
pub slice_bounds-mean_row-count-2 : goal.slice_bounds-mean_row-count-2
slice_bounds-mean_row-count-2 c =
    let a = c.args in
    let p = c.requires in
    let v = p.4.0 in
    let eu = c.next_start-upper.ensures (v + (2 * a.window.s + 1)) p.4.1 in
    omega (arith, lower_fits a.w a.window.r a.window.s v a.lower _ p.4.1 eu p.1)

pub slice_bounds-mean_row-start-2 : goal.slice_bounds-mean_row-start-2
slice_bounds-mean_row-start-2 c = slice_bounds-mean_row-count-2 c

pub mean_row-requires : goal.mean_row-requires
unfolding corners_at Model.area
mean_row-requires c =
    let a = c.args in
    let p = c.requires in
    let v = p.4.0 in
    let eu = c.next_start-upper.ensures (v + (2 * a.window.s + 1)) p.4.1 in
    let n = a.sums.now in
    let upper = c.next_start-upper.result in (
      p.2,
      rw (tail_mid upper n, length-drop) (omega (arith, upper_fits a.w a.window.r a.window.s v a.lower _ p.4.1 eu p.1)),
      rw (tail_mid a.lower n, length-drop) (omega (arith, lower_fits a.w a.window.r a.window.s v a.lower _ p.4.1 eu p.1)),
      rw c.area-n.ensures (omega arith),
      rw c.area-n.ensures (area-le a.window.r a.window.s 15 15 a.window.near.0 a.window.near.1),
      rw c.area-n.ensures p.3,
      λ u k. rw (c.area-n.ensures, tail_mid upper n, tail_mid a.lower n, upper_edge a.w a.window.r a.window.s v a.lower upper p.4.1 eu, p.4.1) (p.4.2 u k),
    )

pub returns : goal.returns
unfolding corners_at
returns c =
    let a = c.args in
    let n = a.sums.now in
    let upper = c.next_start-upper.result in
    λ v e. rw (c.area-n.ensures, tail_mid upper n, tail_mid a.lower n, upper_edge a.w a.window.r a.window.s v a.lower upper e (c.next_start-upper.ensures (v + (2 * a.window.s + 1)) e), e) at c.mean_row.ensures
