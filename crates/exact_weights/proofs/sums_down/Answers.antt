-- `exact_weights::sums_down` meets its contract: tap by tap, each with the padded row that it reaches. Assumes nothing.
use Prim.Native.Nat.{◌+◌}
use native.Mathlib.Nat.{le_antisymm}
use native.Mathlib.Omega.{arith}
use mathlib.Core.Path.{◌≡◌, ap, ◌∙◌}
use mathlib.Core.List.{List, ◌++◌}
use mir.Syntax.{w32}
use mir.Val.{to_z, of_z}
use lib.ListN.{get_or, drop}
use lib.IntN.{ℤ, pos}
use Rattle.lists.proofs.Tabulate.{length_filled, filled_behind, filled_at, tabulate_ext}
use Rattle.frame.specs.Padded.{padded}
use Rattle.frame.proofs.Supplied.{padded-le}
use Rattle.tap_sums.specs.HeldSums.{held_sum}
use Rattle.tap_sums.proofs.SumLaws.{weight_size}
use Rattle.tap_sums.proofs.PartialSums.{partial, partial_more, partial_size}
use Rattle.exact_weights.proofs.Sums.{all_taps, size_small}
use borrow.Author.Rules.{rules}
use Rattle.exact_weights.proofs.sums_down.Invariants.{reached}
use Rattle.exact_weights.proofs.sums_down.Goals as goal

pub overflow_add-v : goal.overflow_add-v
overflow_add-v c =
    record { fits = omega (arith, c.args.down.whole.near c.loop-k.k c.loop-k-test.true, c.requires.1) }

pub padded_row-requires : goal.padded_row-requires
padded_row-requires c =
    let p = c.requires in
    (p.0, omega (arith, c.args.down.whole.near c.loop-k.k c.loop-k-test.true, p.1), omega (arith, p.2))

pub add_tap-requires : goal.add_tap-requires
add_tap-requires c =
    let a = c.args in
    let p = c.requires in
    let L = c.loop-k in
    let n = a.frame.width + 30 in
    let weight : to_z w32 (of_z w32 (get_or a.down.taps.weights L.k (pos 0))) ≡ get_or a.down.taps.weights L.k (pos 0) = search rules in (
      omega (arith, p.3),
      rw c.padded_row.ensures (omega (arith, length_filled (λ x. padded a.frame a.plane.now x (a.v + get_or a.down.taps.offsets L.k 0)) n L.row (omega (arith, p.2)), p.2)),
      rw weight (omega (arith, weight_size a.down.taps.weights L.k a.down.taps.len c.loop-k-test.true, size_small a.down.whole)),
      λ u b. rw (filled_at _ n _ L.sums (pos 0) u L.invariant b)
          (omega (
            arith,
            partial_size a.down.taps.offsets a.down.taps.weights (reached a.frame a.plane.now a.v) (pos 0) 255
                (λ x o. padded-le a.frame a.plane.now x (a.v + o) (omega (arith, c.well_formed)) (λ i. omega (arith, (c.type_inv.plane i).fits)))
                L.k a.down.taps.len (omega (arith, c.loop-k-test.true)) (omega (arith, size_small a.down.whole)) u,
          )),
    )

pub loop-k-preserved : goal.loop-k-preserved
loop-k-preserved c =
    let a = c.args in
    let p = c.requires in
    let L = c.loop-k in
    let n = a.frame.width + 30 in
    let weight : to_z w32 (of_z w32 (get_or a.down.taps.weights L.k (pos 0))) ≡ get_or a.down.taps.weights L.k (pos 0) = search rules in
    partial_more a.down.taps.offsets a.down.taps.weights (reached a.frame a.plane.now a.v) (pos 0) L.k n _ L.sums _ _ _ weight (λ u b. ap pos (filled_at _ n L.row _ 0 u c.padded_row.ensures b)) L.invariant c.add_tap.ensures

pub loop-k-init : goal.loop-k-init
unfolding partial held_sum
loop-k-init c =
    let e = c.start_at.ensures in
    e ∙ rw (filled_behind _ _ _ _ e)

pub returns : goal.returns
returns c =
    let a = c.args in
    let L = c.loop-k in
    let k = le_antisymm L.auto.k-end c.loop-k-test.false in
    let n = a.frame.width + 30 in
    rw (filled_behind _ n _ _ c.start_at.ensures) at (rw k at L.invariant)
    ∙ ap (λ (l : List ℤ). l ++ drop n a.sums.now) (tabulate_ext _ _ n (λ x _. all_taps a.down.taps.offsets a.down.taps.weights (reached a.frame a.plane.now a.v) a.down.taps.len x))
