-- `outlines::write_row` meets its contract: what is stored so far, then what was there. Assumes nothing.
use Prim.Native.Nat.{ℕ, ◌+◌, ◌-◌, ◌≤◌, ◌<◌, min}
use native.Mathlib.Omega.{arith}
use mathlib.Core.Path.{ap, ◌∙◌}
use mathlib.Core.List.{List}
use lib.ListN.{length, take, drop, length-drop}
use Rattle.lists.proofs.Part.{tail_mid}
use Rattle.lists.proofs.Stored.{stored_none, stored_more, stored_done}
use Rattle.model.specs.Outline.{edge_strength}
use Rattle.outlines.specs.Square.{square_at}
use Rattle.outlines.proofs.write_row.Goals as goal

-- three samples of a row, from one place left of column u on
three-there : (row : List ℕ) (w u : ℕ) → w + 30 ≤ length row → u < w → 3 ≤ length (take (length row - (14 + u)) (drop (14 + u) row))
three-there row w u h l = rw (tail_mid (14 + u) row, length-drop) (omega (arith, h, l))

pub loop-u-init : goal.loop-u-init
loop-u-init c =
    stored_none _ _ _

pub square_of-requires : goal.square_of-requires
square_of-requires c =
    let a = c.args in
    let p = c.requires in
    let t = c.loop-u-test.true in
    let u = c.loop-u.u in
    (three-there a.above.now a.w u p.0 t, three-there a.here.now a.w u p.1 t, three-there a.below.now a.w u p.2 t)

pub loop-u-preserved : goal.loop-u-preserved
unfolding square_at
loop-u-preserved c =
    let a = c.args in
    let L = c.loop-u in
    let left = 14 + L.u in
    let square = rw (tail_mid left a.above.now, tail_mid left a.here.now, tail_mid left a.below.now) at c.square_of.ensures in
    stored_more L.invariant c.requires.3 c.loop-u-test.true (c.level.ensures ∙ ap (λ (l : List ℕ). min (edge_strength l) 255) square)

pub returns : goal.returns
returns c =
    stored_done c.loop-u.invariant c.loop-u-test.false
