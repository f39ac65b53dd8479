-- `boxes::write_rows` meets its contract: the rows of means so far, and the rows of sums up to their windows' edge. Assumes nothing.
use Prim.Native.Nat.{ℕ, ◌+◌, ◌-◌, ◌*◌}
use native.Mathlib.Nat.{add-zero}
use native.Mathlib.Omega.{arith}
use mathlib.Core.Path.{◌≡◌, ap, ◌∙◌}
use mathlib.Core.List.{List, ◌++◌}
use lib.ListN.{length, take, drop, length-drop}
use Rattle.lists.proofs.Part.{tail_mid}
use Rattle.lists.proofs.Raster.{row_fits}
use Rattle.model.specs.Window as Model
use Rattle.model_laws.proofs.Window.{area-le}
use Rattle.frame.specs.Framed.{worked}
use Rattle.kept_planes.proofs.Planes.{plane_none, plane_more, plane_whole}
use Rattle.boxes.proofs.Windows.{held_le, row_means}
use borrow.Author.Rules.{rules}
use Rattle.boxes.proofs.write_rows.Goals as goal

pub reciprocal-by-requires : goal.reciprocal-by-requires
unfolding Model.area
reciprocal-by-requires c =
    let w = c.args.window in
    rw c.area.ensures (omega arith, area-le w.r w.s 15 15 w.near.0 w.near.1)

pub loop-v-init : goal.loop-v-init
loop-v-init c =
    let p = c.requires in
    (plane_none _ _ _, rw add-zero p.4, rw add-zero p.5)

pub row_of_means-requires : goal.row_of_means-requires
row_of_means-requires c =
    let a = c.args in
    let p = c.requires in
    let f = a.frame in
    let w = a.window in
    let L = c.loop-v in
    let down : 2 * w.s + L.v + 1 ≡ L.v + (2 * w.s + 1) = omega arith in
    let made = rw down at c.next_row-lower.ensures in (
      p.0.width.1,
      search rules,
      rw (tail_mid (L.v * f.width) L.dst, length-drop) (omega (arith, row_fits L.v f.height f.width c.loop-v-test.true, L.auto.dst, p.6)),
      c.reciprocal-by.ensures ∙ rw c.area.ensures,
      (L.v, made.0, held_le f w.r w.s a.plane.now w.near.0 w.near.1 (omega (arith, c.well_formed)) (λ i. omega (arith, (c.type_inv.plane i).fits)) _ L.v made.1),
    )

pub loop-v-preserved : goal.loop-v-preserved
loop-v-preserved c =
    let a = c.args in
    let f = a.frame in
    let w = a.window in
    let L = c.loop-v in
    let down : 2 * w.s + L.v + 1 ≡ L.v + (2 * w.s + 1) = omega arith in
    let next : L.v + (2 * w.s + 1) ≡ 2 * w.s + (L.v + 1) = omega arith in
    let made = rw down at c.next_row-lower.ensures in
    let means = row_means f w.r w.s a.plane.now w.near.0 w.near.1 (omega (arith, c.well_formed)) (λ i. omega (arith, (c.type_inv.plane i).fits)) _ L.v made.1 in
    let row = c.row_of_means.ensures L.v made.0 ∙ ap (λ (l : List ℕ). l ++ drop f.width (take (length L.dst - L.v * f.width) (drop (L.v * f.width) L.dst))) means in
    (plane_more _ f.width a.dst.now c.requires.6 L.dst _ c.loop-v-test.true L.invariant.0 row, rw next at made.0, rw next at made.1)

pub returns : goal.returns
unfolding worked
returns c =
    plane_whole _ _ c.args.dst.now c.requires.6 (omega arith) c.loop-v-test.false c.loop-v.invariant.0
