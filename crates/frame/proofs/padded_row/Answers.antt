-- `frame::padded_row` meets its contract: a row of the frame and its sides, or the border value alone. Assumes nothing.
use Prim.Native.Nat.{ℕ, ◌+◌, ◌*◌}
use native.Mathlib.Omega.{arith}
use mathlib.Core.Path.{sym, ap, ◌∙◌}
use mathlib.Core.List.{List, ◌++◌}
use lib.ListN.{drop, length-drop}
use lib.Seq.{length-take-le}
use Rattle.lists.proofs.Tabulate.{tabulate_ext, tabulate_const}
use Rattle.lists.proofs.Part.{tail_mid}
use Rattle.model_laws.proofs.Border.{supply-inside}
use Rattle.frame.proofs.Supplied.{padded-row, padded_outside}
use Rattle.places.proofs.PlaceLaws.{place_some, place_none, place_inside}
use Rattle.frame.proofs.Rows.{row-there, row_small}
use Rattle.frame.proofs.padded_row.Goals as goal

pub overflow_mul-v : goal.overflow_mul-v
overflow_mul-v c =
    let h = c.requires.0 in
    record { fits = omega (arith, row_small c.in-Some.v h (place_inside _ (supply-inside _ _ _ h.height.0) c.in-Some.ensures)) }

pub slice_bounds-row_and_sides-count : goal.slice_bounds-row_and_sides-count
slice_bounds-row_and_sides-count c =
    let h = c.requires.0 in
    omega (arith, row-there c.in-Some.v h (place_inside _ (supply-inside _ _ _ h.height.0) c.in-Some.ensures))

pub slice_bounds-row_and_sides-start : goal.slice_bounds-row_and_sides-start
slice_bounds-row_and_sides-start c =
    slice_bounds-row_and_sides-count c

pub row_and_sides-requires : goal.row_and_sides-requires
row_and_sides-requires c =
    let p = c.requires in
    let v = c.in-Some.v in
    let there = row-there v p.0 (place_inside _ (supply-inside _ _ _ p.0.height.0) c.in-Some.ensures) in
    (p.0.width.0, p.0.width.1, rw (tail_mid (v * c.args.frame.width) c.args.plane.now, length-drop) (omega (arith, there)), p.2)

pub returns-in-Some : goal.returns-in-Some
returns-in-Some c =
    let a = c.args in
    let v = c.in-Some.v in
    c.row_and_sides.ensures ∙ ap (λ (t : List ℕ). t ++ drop (a.frame.width + 30) a.dst.now)
    (tabulate_ext _ _ (a.frame.width + 30) (λ x k. rw (tail_mid (v * a.frame.width) a.plane.now) (padded-row a.frame a.plane.now x a.y v (place_some _ c.in-Some.ensures))))

pub returns-in-None : goal.returns-in-None
returns-in-None c =
    let a = c.args in
    let n = a.frame.width + 30 in
    let filled = rw (length-take-le n a.dst.now c.requires.2) at (c.fill.ensures.after (λ y e. e)) in
    ap (λ (t : List ℕ). t ++ drop n a.dst.now)
    (filled ∙ sym (tabulate_const a.frame.value n) ∙ tabulate_ext _ _ n (λ x k. padded_outside a.frame a.plane.now x a.y (place_none _ c.in-None.ensures)))
