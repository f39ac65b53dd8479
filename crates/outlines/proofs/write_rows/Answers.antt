-- `outlines::write_rows` meets its contract: row by row, with the rows above, at and below each in hand. Assumes nothing.
use Prim.Native.Nat.{ℕ, ◌+◌, ◌-◌, ◌*◌}
use native.Mathlib.Omega.{arith}
use mathlib.Core.Path.{◌≡◌, ap, ◌∙◌}
use mathlib.Core.List.{List, ◌++◌}
use lib.ListN.{length, take, drop}
use Rattle.frame.specs.Framed.{worked}
use Rattle.kept_planes.proofs.Planes.{plane_none, plane_more, plane_whole}
use Rattle.outlines.proofs.Rows.{levels}
use Rattle.outlines.proofs.write_rows.Goals as goal

pub loop-v-init : goal.loop-v-init
loop-v-init c =
    (plane_none _ _ _, c.requires.2, c.requires.3)

pub loop-v-preserved : goal.loop-v-preserved
loop-v-preserved c =
    let a = c.args in
    let w = a.frame.width in
    let L = c.loop-v in
    let held = c.next_rows.ensures in
    let row = c.write_row.ensures ∙ ap (λ (l : List ℕ). l ++ drop w (take (length L.dst - L.v * w) (drop (L.v * w) L.dst))) (levels a.frame _ L.v held.0 held.1 held.2) in
    let at : 15 + L.v ≡ 14 + (L.v + 1) = omega arith in
    let down : 16 + L.v ≡ 15 + (L.v + 1) = omega arith in
    (plane_more _ w a.dst.now c.requires.4 L.dst _ c.loop-v-test.true L.invariant.0 row, rw at at held.1, rw down at held.2)

pub returns : goal.returns
unfolding worked
returns c =
    plane_whole _ _ c.args.dst.now c.requires.4 (omega arith) c.loop-v-test.false c.loop-v.invariant.0
