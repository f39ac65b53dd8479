-- `weighted::all_rows` meets its contract: row by row. Assumes nothing.
use Prim.Native.Nat.{ℕ, ◌+◌, ◌*◌, ◌-◌, ◌≤◌, ◌<◌}
use native.Mathlib.Nat.{mul-le-mul}
use native.Mathlib.Omega.{arith}
use mathlib.Core.Path.{◌≡◌, refl, sym, ap, ◌∙◌}
use mathlib.Core.List.{List, ◌++◌}
use lib.ListN.{length, drop, take, length-drop}
use lib.IntN.{ℤ}
use Rattle.lists.proofs.Part.{tail_mid}
use Rattle.lists.proofs.Tabulate.{length_filled}
use Rattle.lists.proofs.Stored.{rows_stored_none, rows_stored_more, rows_stored_done, row_room}
use Rattle.frame.specs.Padded.{padded}
use Rattle.tap_sums.proofs.PartialSums.{row-supplied}
use Rattle.weighted.proofs.all_rows.Goals as goal

-- no place of a row is a large number
small-place : {y count w : ℕ} → y < count → count ≤ 8222 → w ≤ 8192 → y * w ≤ 67354624
small-place {y} {count} h k l = mul-le-mul {n₂ = 8222} {m₂ = 8192} (omega (arith, h, k)) l

pub loop-y-init : goal.loop-y-init
loop-y-init c =
    let none : 0 * c.args.frame.width ≡ 0 = omega arith in
    (rw none (rows_stored_none _ _ _ _), refl)

pub padded_row-requires : goal.padded_row-requires
padded_row-requires c =
    (c.requires.0, omega (arith, c.requires.1, c.requires.2, c.loop-y-test.true), omega (arith, c.loop-y.invariant.1, c.requires.0.width.1))

pub overflow_mul-y : goal.overflow_mul-y
overflow_mul-y c =
    record { fits = omega (arith, small-place c.loop-y-test.true c.requires.2 c.requires.0.width.1) }

pub offset_bounds-rows-y : goal.offset_bounds-rows-y
offset_bounds-rows-y c =
    record { fits = omega (arith, small-place c.loop-y-test.true c.requires.2 c.requires.0.width.1) }

pub slice_bounds-row_values-count : goal.slice_bounds-row_values-count
slice_bounds-row_values-count c =
    omega (arith, row_room c.loop-y.invariant.0 c.loop-y-test.true c.requires.3, c.loop-y.invariant.0.long)

pub slice_bounds-row_values-start : goal.slice_bounds-row_values-start
slice_bounds-row_values-start c =
    omega (arith, row_room c.loop-y.invariant.0 c.loop-y-test.true c.requires.3, c.loop-y.invariant.0.long)

pub row_values-requires : goal.row_values-requires
row_values-requires c =
    let a = c.args in
    let p = c.requires in
    let L = c.loop-y in
    let at = L.y * a.frame.width in
    let long : a.frame.width + 30 ≤ length L.row = omega (arith, L.invariant.1, p.0.width.1) in (
      p.0.width.1,
      rw (c.padded_row.ensures, length_filled _ _ L.row long) long,
      rw (tail_mid at L.rows, length-drop) (omega (arith, row_room L.invariant.0 c.loop-y-test.true p.3, L.invariant.0.long)),
    )

pub loop-y-preserved : goal.loop-y-preserved
loop-y-preserved c =
    let a = c.args in
    let p = c.requires in
    let L = c.loop-y in
    let w = a.frame.width in
    let at = L.y * w in
    let next : (L.y + 1) * w ≡ at + w = omega arith in
    let long : w + 30 ≤ length L.row = omega (arith, L.invariant.1, p.0.width.1) in
    let e = c.padded_row.ensures in
    let part = c.row_values.ensures ∙ ap (λ (l : List ℤ). l ++ drop w (take (length L.rows - at) (drop at L.rows))) (row-supplied a.axis.taps w (a.first + L.y) (padded a.frame a.plane.now) L.row _ a.axis.light e) in
    (rw next (rows_stored_more L.invariant.0 c.loop-y-test.true _ p.3 part), rw e (L.invariant.1 ∙ sym (length_filled _ _ L.row long)))

pub returns : goal.returns
returns c =
    rows_stored_done c.loop-y.invariant.0 c.loop-y-test.false
