-- `weighted_columns::all_columns` meets its contract: row by row. Assumes nothing.
use Prim.Native.Nat.{ℕ, ◌+◌, ◌*◌, ◌-◌, ◌≤◌, ◌<◌}
use native.Mathlib.Nat.{mul-le-mul}
use native.Mathlib.Omega.{arith}
use mathlib.Core.Path.{◌≡◌, refl, sym, ap, ◌∙◌}
use mathlib.Core.List.{List, ◌++◌, append-nil}
use lib.ListN.{length, get_or, drop, take, length-drop, drop_of_length-le}
use lib.Seq.{get_or-drop}
use lib.IntN.{pos}
use Rattle.lists.proofs.Part.{tail_mid}
use Rattle.lists.proofs.Tabulate.{length_filled}
use Rattle.lists.proofs.Stored.{rows_stored_none, rows_stored_more, rows_stored_done, row_room}
use Rattle.tap_sums.proofs.PartialSums.{column_fits, level_at, level-row}
use Rattle.weighted_columns.proofs.all_columns.Goals as goal

-- no place of a row is a large number
small-place : {v h w : ℕ} → v < h → h ≤ 8192 → w ≤ 8192 → v * w ≤ 67108864
small-place {v} {h} b k l = mul-le-mul {n₂ = 8192} {m₂ = 8192} (omega (arith, b, k)) l

pub loop-v-init : goal.loop-v-init
loop-v-init c =
    let none : 0 * c.args.w ≡ 0 = omega arith in
    (rw none (rows_stored_none _ _ _ _), refl)

pub offset_bounds-rows-at : goal.offset_bounds-rows-at
offset_bounds-rows-at c =
    record { fits = omega (arith, small-place c.loop-v-test.true c.requires.1 c.requires.0) }

pub slice_bounds-column_sums-count : goal.slice_bounds-column_sums-count
slice_bounds-column_sums-count c =
    let a = c.args in
    omega (arith, column_fits c.loop-v.v a.h 0 a.reach.first a.reach.last a.w c.loop-v-test.true (omega arith), c.requires.4)

pub slice_bounds-column_sums-start : goal.slice_bounds-column_sums-start
slice_bounds-column_sums-start c =
    let a = c.args in
    omega (arith, column_fits c.loop-v.v a.h 0 a.reach.first a.reach.last a.w c.loop-v-test.true (omega arith), c.requires.4)

pub column_sums-requires : goal.column_sums-requires
column_sums-requires c =
    let a = c.args in
    let p = c.requires in
    let L = c.loop-v in
    let at = L.v * a.w in
    let R = a.rows.now in (
      p.0,
      omega (arith, p.0, L.invariant.1),
      λ i b. ((p.3.all i b).0, rw (tail_mid at R, length-drop) (omega (arith, column_fits L.v a.h (get_or a.axis.taps.offsets i 0) a.reach.first a.reach.last a.w c.loop-v-test.true (p.3.all i b).1, p.4))),
      λ i. rw (tail_mid at R, get_or-drop at R i (pos 0)) (p.5 _),
    )

pub slice_bounds-finish-count : goal.slice_bounds-finish-count
slice_bounds-finish-count c =
    omega (arith, row_room c.loop-v.invariant.0 c.loop-v-test.true {m = length c.args.plane.now} (omega (arith, c.requires.2)), c.loop-v.invariant.0.long)

pub slice_bounds-finish-start : goal.slice_bounds-finish-start
slice_bounds-finish-start c =
    omega (arith, row_room c.loop-v.invariant.0 c.loop-v-test.true {m = length c.args.plane.now} (omega (arith, c.requires.2)), c.loop-v.invariant.0.long)

pub finish-requires : goal.finish-requires
finish-requires c =
    let a = c.args in
    let p = c.requires in
    let L = c.loop-v in
    let at = L.v * a.w in
    let long : a.w ≤ length L.sums = omega (arith, L.invariant.1, p.0) in (
      rw (c.column_sums.ensures, length_filled _ _ L.sums long) long,
      rw (tail_mid at L.plane, length-drop) (omega (arith, row_room L.invariant.0 c.loop-v-test.true {m = length a.plane.now} (omega (arith, p.2)), L.invariant.0.long)),
    )

pub overflow_mul-at : goal.overflow_mul-at
overflow_mul-at c =
    record { fits = omega (arith, small-place c.loop-v-test.true c.requires.1 c.requires.0) }

pub loop-v-preserved : goal.loop-v-preserved
loop-v-preserved c =
    let a = c.args in
    let p = c.requires in
    let L = c.loop-v in
    let at = L.v * a.w in
    let next : (L.v + 1) * a.w ≡ at + a.w = omega arith in
    let long : a.w ≤ length L.sums = omega (arith, L.invariant.1, p.0) in
    let e = c.column_sums.ensures in
    let part = c.finish.ensures ∙ ap (λ (l : List ℕ). l ++ drop a.w (take (length L.plane - at) (drop at L.plane))) (level-row a.axis.taps a.w a.reach.first a.rows.now L.v at L.sums _ L.invariant.0.place e) in
    (rw next (rows_stored_more L.invariant.0 c.loop-v-test.true _ (omega (arith, p.2)) part), rw e (L.invariant.1 ∙ sym (length_filled _ _ L.sums long)))

pub returns : goal.returns
unfolding level_at
returns c =
    let a = c.args in
    let none = drop_of_length-le a.plane.now {i = a.h * a.w} (omega (arith, c.requires.2)) in
    rw (none, append-nil) at (rows_stored_done c.loop-v.invariant.0 c.loop-v-test.false)
