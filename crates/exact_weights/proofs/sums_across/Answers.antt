-- `exact_weights::sums_across` meets its contract: tap by tap. Assumes nothing.
use Prim.Native.Nat.{◌+◌}
use native.Mathlib.Nat.{le_antisymm}
use native.Mathlib.Omega.{arith}
use mathlib.Core.Path.{◌≡◌, ap, ◌∙◌}
use mathlib.Core.List.{List, ◌++◌}
use mir.Syntax.{w32}
use mir.Val.{to_z, of_z}
use lib.ListN.{get_or, drop, length-drop}
use lib.IntN.{ℤ, pos}
use Rattle.lists.proofs.Part.{tail_mid}
use Rattle.lists.proofs.Tabulate.{filled_behind, filled_at, tabulate_ext}
use Rattle.tap_sums.specs.HeldSums.{held_sum}
use Rattle.tap_sums.proofs.SumLaws.{weight_size}
use Rattle.tap_sums.proofs.PartialSums.{partial, partial_more, partial_size, shifted}
use Rattle.exact_weights.proofs.Sums.{all_taps, size_small}
use borrow.Author.Rules.{rules}
use Rattle.exact_weights.proofs.sums_across.Invariants.{at_offset}
use Rattle.exact_weights.proofs.sums_across.Goals as goal

pub slice_bounds-add_tap-count : goal.slice_bounds-add_tap-count
slice_bounds-add_tap-count c =
    omega (arith, c.args.across.whole.near c.loop-k.k c.loop-k-test.true, c.requires.1)

pub slice_bounds-add_tap-start : goal.slice_bounds-add_tap-start
slice_bounds-add_tap-start c =
    omega (arith, c.args.across.whole.near c.loop-k.k c.loop-k-test.true, c.requires.1)

pub add_tap-requires : goal.add_tap-requires
add_tap-requires c =
    let a = c.args in
    let p = c.requires in
    let L = c.loop-k in
    let t = c.loop-k-test.true in
    let at = get_or a.across.taps.offsets L.k 0 in
    let weight : to_z w32 (of_z w32 (get_or a.across.taps.weights L.k (pos 0))) ≡ get_or a.across.taps.weights L.k (pos 0) = search rules in (
      omega (arith, p.2),
      rw (tail_mid at a.sums.now, length-drop) (omega (arith, a.across.whole.near L.k t, p.1)),
      rw weight (omega (arith, weight_size a.across.taps.weights L.k a.across.taps.len t, size_small a.across.whole)),
      λ u b. (
        rw (filled_at _ a.w _ L.wide (pos 0) u L.invariant b)
            (omega (arith, partial_size a.across.taps.offsets a.across.taps.weights (at_offset a.sums.now) (pos 0) 134217728 (λ v o. p.3 (v + o)) L.k a.across.taps.len (omega (arith, t)) (omega (arith, size_small a.across.whole)) u)),
        rw (shifted a.sums.now at u (pos 0)) (p.3 (u + at)),
      ),
    )

pub loop-k-preserved : goal.loop-k-preserved
loop-k-preserved c =
    let a = c.args in
    let L = c.loop-k in
    let at = get_or a.across.taps.offsets L.k 0 in
    let weight : to_z w32 (of_z w32 (get_or a.across.taps.weights L.k (pos 0))) ≡ get_or a.across.taps.weights L.k (pos 0) = search rules in
    partial_more a.across.taps.offsets a.across.taps.weights (at_offset a.sums.now) (pos 0) L.k a.w _ L.wide _ _ _ weight (λ u b. shifted a.sums.now at u (pos 0)) L.invariant c.add_tap.ensures

pub loop-k-init : goal.loop-k-init
unfolding partial held_sum
loop-k-init c =
    let e = c.start_at.ensures in
    e ∙ rw (filled_behind _ _ _ _ e)

pub returns : goal.returns
returns c =
    let a = c.args in
    let L = c.loop-k in
    let k = le_antisymm L.auto.k-end c.loop-k-test.false in
    rw (filled_behind _ a.w _ _ c.start_at.ensures) at (rw k at L.invariant)
    ∙ ap (λ (l : List ℤ). l ++ drop a.w a.wide.now) (tabulate_ext _ _ a.w (λ u _. all_taps a.across.taps.offsets a.across.taps.weights (at_offset a.sums.now) a.across.taps.len u))
