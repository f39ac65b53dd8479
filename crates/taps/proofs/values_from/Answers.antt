-- `taps::values_from` meets its contract. Assumes nothing.
use Prim.Native.Nat.{ℕ, ◌+◌, ◌*◌, ◌≤◌}
use native.Mathlib.Nat.{mul-le-mul}
use native.Mathlib.Omega.{arith}
use mathlib.Core.Path.{sym, ap, ◌∙◌}
use lib.ListN.{length}
use Rattle.lists.proofs.Tabulate.{fill_none, fill_more, filled_front, length_filled}
use Rattle.taps.specs.TapBytes.{numerator_at}
use Rattle.taps.specs.Held.{held_numerator}
use Rattle.axis_fields.proofs.SizeLaws.{length_small}
use Rattle.taps.proofs.Numerators.{place_there}
use Rattle.taps.proofs.values_from.Goals as goal

pub loop-i-init : goal.loop-i-init
loop-i-init c =
    fill_none _ _

pub overflow_add-o : goal.overflow_add-o
overflow_add-o c =
    omega (arith, c.requires.near, c.requires.few)

pub overflow_mul-step : goal.overflow_mul-step
overflow_mul-step c =
    let a : c.weight_length-step.result ≤ 4 = omega (arith, c.weight_length-step.ensures, length_small c.args.real) in
    let b : c.loop-i.i ≤ 31 = omega (arith, c.loop-i-test.true, c.requires.few) in
    omega (arith, mul-le-mul a b)

pub overflow_add-w : goal.overflow_add-w
overflow_add-w c =
    let a : c.weight_length-step.result ≤ 4 = omega (arith, c.weight_length-step.ensures, length_small c.args.real) in
    let b : c.loop-i.i ≤ 31 = omega (arith, c.loop-i-test.true, c.requires.few) in
    omega (arith, mul-le-mul a b, c.requires.near)

pub value_at-requires : goal.value_at-requires
value_at-requires c =
    let t = c.requires in
    let i = c.loop-i.i in
    let p = place_there c.args.real c.args.w c.args.n i (length c.args.part.now) c.loop-i-test.true t.weights-there in
    rw c.weight_length-step.ensures (omega (arith, t.offsets-there, c.loop-i-test.true), p, λ r. t.weights-right r i c.loop-i-test.true)

pub loop-i-preserved : goal.loop-i-preserved
loop-i-preserved c =
    let L = c.loop-i in
    fill_more _ _ _ _ _ (omega arith) L.invariant (c.value_at.ensures ∙ ap (λ (s : ℕ). held_numerator (numerator_at c.args.real c.args.part.now (c.args.w + s * L.i))) c.weight_length-step.ensures)

pub returns : goal.returns
returns c =
    let L = c.loop-i in
    (rw L.invariant (sym (length_filled _ L.i _ (omega (arith, c.requires.few)))), filled_front _ c.args.n L.i _ _ (omega arith) c.loop-i-test.false L.invariant)
