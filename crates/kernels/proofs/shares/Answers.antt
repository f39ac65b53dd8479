-- `kernels::shares` meets its contract: what is stored at i is the model's weight of tap i. Assumes nothing.
use Prim.Native.Nat.{ℕ}
use native.Mathlib.Omega.{arith}
use mathlib.Core.Path.{◌≡◌, refl, sym, ap, ◌∙◌}
use mathlib.Core.Bool.{Bool, cond}
use lib.ListN.{length-set}
use mir.Syntax.{w32}
use mir.Val.{to_z, of_z}
use Rattle.lists.proofs.Tabulate.{fill_none, fill_more, filled_front}
use Rattle.kernels.proofs.Units.{one_within, rounded-is, rest_small, unit_is, weight_is, shares_are}
use borrow.Author.Rules.{rules}
use Rattle.kernels.proofs.shares.Goals as goal

pub remainders-left-requires : goal.remainders-left-requires
remainders-left-requires c =
    let l = c.requires in
    (l.taps, l.numerators-fit, l.some, l.few, one_within _ _ _ _ l)

pub slice_bounds-lacking_units-end : goal.slice_bounds-lacking_units-end
slice_bounds-lacking_units-end c =
    c.remainders-left.ensures.0

pub lacking_units-lacking-requires : goal.lacking_units-lacking-requires
lacking_units-lacking-requires c =
    let l = c.requires in
    (l.taps, omega (arith, c.remainders-left.ensures.0, l.taps), l.some, l.few, rest_small _ c.args.offsets.now c.args.values.now _ _ c.remainders-left.ensures.1 l.some)

pub loop-i-init : goal.loop-i-init
loop-i-init c =
    (fill_none _ _, refl)

pub slice_bounds-unit_of-end : goal.slice_bounds-unit_of-end
slice_bounds-unit_of-end c =
    c.remainders-left.ensures.0

pub unit_of-requires : goal.unit_of-requires
unit_of-requires c =
    let l = c.requires in
    (l.taps, c.loop-i-test.true, omega (arith, c.remainders-left.ensures.0, l.taps), l.offsets-fit)

pub share-requires : goal.share-requires
share-requires c =
    let l = c.requires in
    (l.some, l.few, one_within _ _ _ _ l _ c.loop-i-test.true, c.unit_of.ensures.0)

pub bounds-weights-i : goal.bounds-weights-i
bounds-weights-i c =
    omega (arith, c.requires.taps)

pub loop-i-preserved : goal.loop-i-preserved
loop-i-preserved c =
    let l = c.requires in
    let a = c.args in
    let L = c.loop-i in
    let v = a.values.now in
    let o = a.offsets.now in
    let u = unit_is a.divisor o v c.remainders-left.result.rest a.n c.remainders-left.ensures.1 L.i c.loop-i-test.true l.some in
    let k = (rw c.lacking_units-lacking.ensures at c.unit_of.ensures.1) ∙ sym (ap (λ (b : Bool). cond {A = ℕ} b 1 0) u) in
    let s : to_z w32 (of_z w32 c.share.result) ≡ c.share.result = search rules in
    (fill_more _ _ _ _ _ (omega (arith, l.taps)) L.invariant.0 (s ∙ weight_is a.divisor o v a.n L.i _ c.share.ensures k), simp length-set L.invariant.1)

pub returns : goal.returns
returns c =
    let L = c.loop-i in
    let a = c.args in
    let v = a.values.now in
    let o = a.offsets.now in (
      L.invariant.1,
      filled_front _ a.n L.i _ _ L.auto.i-end c.loop-i-test.false L.invariant.0 ∙ sym (shares_are a.divisor o v a.n),
      c.remainders-left.ensures.2 ∙ rounded-is a.divisor o v a.n,
    )
