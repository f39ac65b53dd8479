-- `weighted_rows::row_values` meets its contract: tap by tap. Assumes nothing.
use Prim.Native.Nat.{◌+◌}
use native.Mathlib.Nat.{le_antisymm}
use native.Mathlib.Omega.{arith}
use mathlib.Core.Path.{◌≡◌, ap, ◌∙◌}
use mir.Syntax.{w32}
use mir.Val.{to_z, of_z}
use lib.ListN.{get_or, length-drop}
use lib.IntN.{pos}
use Rattle.lists.proofs.Part.{tail_mid}
use Rattle.lists.proofs.Tabulate.{filled_behind, filled_at, refill}
use Rattle.tap_sums.specs.HeldSums.{held_sum, row_of}
use Rattle.tap_sums.proofs.SumLaws.{weight_size}
use Rattle.tap_sums.proofs.PartialSums.{partial, partial_more, partial_size, shifted}
use borrow.Author.Rules.{rules}
use Rattle.weighted_rows.proofs.row_values.Invariants.{at_offset}
use Rattle.weighted_rows.proofs.row_values.Goals as goal

pub loop-k-init : goal.loop-k-init
unfolding partial held_sum
loop-k-init c =
    let e = c.start_at.ensures in
    e ∙ rw (filled_behind _ _ _ _ e)

pub slice_bounds-add_tap-count : goal.slice_bounds-add_tap-count
slice_bounds-add_tap-count c =
    omega (arith, c.args.axis.light.near c.loop-k.k c.loop-k-test.true, c.requires.1)

pub slice_bounds-add_tap-start : goal.slice_bounds-add_tap-start
slice_bounds-add_tap-start c =
    omega (arith, c.args.axis.light.near c.loop-k.k c.loop-k-test.true, c.requires.1)

pub add_tap-requires : goal.add_tap-requires
add_tap-requires c =
    let a = c.args in
    let L = c.loop-k in
    let t = c.loop-k-test.true in
    let p = c.requires in
    let near = a.axis.light.near L.k t in
    let at = get_or a.axis.taps.offsets L.k 0 in
    let weight : to_z w32 (of_z w32 (get_or a.axis.taps.weights L.k (pos 0))) ≡ get_or a.axis.taps.weights L.k (pos 0) = search rules in (
      omega (arith, p.2),
      rw (tail_mid at a.row.now, length-drop) (omega (arith, p.1, near)),
      rw weight (omega (arith, weight_size a.axis.taps.weights L.k a.axis.taps.len t, a.axis.light.size)),
      λ u b. rw (filled_at _ a.n _ L.sums (pos 0) u L.invariant b)
          (omega (arith, partial_size a.axis.taps.offsets a.axis.taps.weights (at_offset a.row.now) (pos 512) 255 (λ v o. omega (arith, (c.type_inv.row (v + o)).fits)) L.k a.axis.taps.len (omega (arith, t)) a.axis.light.size u)),
    )

pub loop-k-preserved : goal.loop-k-preserved
loop-k-preserved c =
    let a = c.args in
    let L = c.loop-k in
    let weight : to_z w32 (of_z w32 (get_or a.axis.taps.weights L.k (pos 0))) ≡ get_or a.axis.taps.weights L.k (pos 0) = search rules in
    partial_more a.axis.taps.offsets a.axis.taps.weights (at_offset a.row.now) (pos 512) L.k a.n _ L.sums _ _ _ weight (λ u b. ap pos (shifted a.row.now (get_or a.axis.taps.offsets L.k 0) u 0)) L.invariant c.add_tap.ensures

pub returns : goal.returns
unfolding partial row_of
returns c =
    let a = c.args in
    let L = c.loop-k in
    let k = le_antisymm L.auto.k-end c.loop-k-test.false in
    let el = rw (filled_behind _ a.n _ _ c.start_at.ensures) at (rw k at L.invariant) in
    refill (partial a.axis.taps.offsets a.axis.taps.weights (at_offset a.row.now) (pos 512) a.axis.taps.len) _ _ a.n a.sums.now L.sums _ (pos 0) el c.finish.ensures (λ u b e. rw e)
