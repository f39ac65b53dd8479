-- `weighted_columns::column_sums` meets its contract: tap by tap. Assumes nothing.
use Prim.Native.Nat.{ℕ, ◌+◌, ◌*◌, ◌-◌, ◌≤◌}
use native.Mathlib.Nat.{le_antisymm, add_comm, mul-le-mul}
use native.Mathlib.Omega.{arith}
use mathlib.Core.Path.{◌≡◌, refl, ap, ◌∙◌}
use mir.Syntax.{w32}
use mir.Val.{to_z, of_z}
use lib.ListN.{get_or, length-drop}
use lib.IntN.{pos}
use Rattle.lists.proofs.Part.{tail_mid}
use Rattle.lists.proofs.Tabulate.{length_filled, filled_behind, filled_at}
use Rattle.tap_sums.specs.HeldSums.{held_sum}
use Rattle.tap_sums.proofs.SumLaws.{weight_size}
use Rattle.tap_sums.proofs.PartialSums.{partial, partial_more, partial_size, shifted}
use borrow.Author.Rules.{rules}
use Rattle.weighted_columns.proofs.column_sums.Invariants.{at_offset}
use Rattle.weighted_columns.proofs.column_sums.Goals as goal

-- no place of a row is a large number
small-place : (o first w : ℕ) → o ≤ 30 → w ≤ 8192 → (o - first) * w ≤ 245760
small-place o first w h l = mul-le-mul {n₂ = 30} {m₂ = 8192} (omega (arith, h)) l

pub loop-k-init : goal.loop-k-init
unfolding partial held_sum
loop-k-init c =
    let e = c.start_at.ensures in
    e ∙ rw (filled_behind _ _ _ _ e)

pub overflow_sub-at : goal.overflow_sub-at
overflow_sub-at c =
    omega (arith, (c.requires.2 c.loop-k.k c.loop-k-test.true).0)

pub overflow_mul-at : goal.overflow_mul-at
overflow_mul-at c =
    record { fits = omega (arith, small-place (get_or c.args.axis.taps.offsets c.loop-k.k 0) c.args.first c.args.w (c.args.axis.light.near c.loop-k.k c.loop-k-test.true) c.requires.0) }

pub offset_bounds-rows-at : goal.offset_bounds-rows-at
offset_bounds-rows-at c =
    record { fits = omega (arith, small-place (get_or c.args.axis.taps.offsets c.loop-k.k 0) c.args.first c.args.w (c.args.axis.light.near c.loop-k.k c.loop-k-test.true) c.requires.0) }

pub slice_bounds-add_tap-count : goal.slice_bounds-add_tap-count
slice_bounds-add_tap-count c =
    omega (arith, (c.requires.2 c.loop-k.k c.loop-k-test.true).1)

pub slice_bounds-add_tap-start : goal.slice_bounds-add_tap-start
slice_bounds-add_tap-start c =
    omega (arith, (c.requires.2 c.loop-k.k c.loop-k-test.true).1)

pub add_tap-requires : goal.add_tap-requires
add_tap-requires c =
    let a = c.args in
    let L = c.loop-k in
    let t = c.loop-k-test.true in
    let p = c.requires in
    let at = (get_or a.axis.taps.offsets L.k 0 - a.first) * a.w in
    let weight : to_z w32 (of_z w32 (get_or a.axis.taps.weights L.k (pos 0))) ≡ get_or a.axis.taps.weights L.k (pos 0) = search rules in (
      omega (arith, p.1),
      rw (tail_mid at a.rows.now, length-drop) (omega (arith, (p.2 L.k t).1)),
      rw weight (omega (arith, weight_size a.axis.taps.weights L.k a.axis.taps.len t, a.axis.light.size)),
      λ u b. (
        rw (filled_at _ a.w _ L.sums (pos 0) u L.invariant b)
            (omega (arith, partial_size a.axis.taps.offsets a.axis.taps.weights (at_offset a.rows.now a.w a.first) (pos 2097152) 65536 (λ v o. p.3 _) L.k a.axis.taps.len (omega (arith, t)) a.axis.light.size u)),
        rw (shifted a.rows.now at u (pos 0)) (omega (arith, p.3 (u + at))),
      ),
    )

pub loop-k-preserved : goal.loop-k-preserved
loop-k-preserved c =
    let a = c.args in
    let L = c.loop-k in
    let at = (get_or a.axis.taps.offsets L.k 0 - a.first) * a.w in
    let weight : to_z w32 (of_z w32 (get_or a.axis.taps.weights L.k (pos 0))) ≡ get_or a.axis.taps.weights L.k (pos 0) = search rules in
    partial_more a.axis.taps.offsets a.axis.taps.weights (at_offset a.rows.now a.w a.first) (pos 2097152) L.k a.w _ L.sums _ _ _ weight
    (λ u b. shifted a.rows.now at u (pos 0) ∙ ap (λ (i : ℕ). get_or a.rows.now i (pos 0)) (add_comm u at)) L.invariant c.add_tap.ensures

pub returns : goal.returns
unfolding partial
returns c =
    let a = c.args in
    let L = c.loop-k in
    let k = le_antisymm L.auto.k-end c.loop-k-test.false in
    rw (filled_behind _ a.w _ _ c.start_at.ensures) at (rw k at L.invariant)
