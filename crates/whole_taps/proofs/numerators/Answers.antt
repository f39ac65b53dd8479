-- `whole_taps::numerators` meets its contract: what is stored so far, then what was there. Assumes nothing.
use native.Mathlib.Omega.{arith}
use mathlib.Core.Path.{◌≡◌, refl, sym, ◌∙◌}
use mir.Syntax.{w32}
use mir.Val.{to_z, of_z}
use Rattle.lists.proofs.Tabulate.{filled_front}
use Rattle.lists.proofs.Stored.{stored_none, stored_more}
use borrow.Author.Rules.{rules}
use Rattle.whole_taps.proofs.numerators.Goals as goal

pub loop-i-init : goal.loop-i-init
loop-i-init c =
    (stored_none _ _ _, refl)

pub numerator-requires : goal.numerator-requires
numerator-requires c =
    c.requires.2 c.loop-i.i c.loop-i-test.true

pub bounds-weights-i : goal.bounds-weights-i
bounds-weights-i c =
    omega (arith, c.loop-i-test.true, c.requires.0)

pub loop-i-preserved : goal.loop-i-preserved
loop-i-preserved c =
    let L = c.loop-i in
    let out : to_z w32 (of_z w32 c.numerator.result) ≡ c.numerator.result = search rules in
    (stored_more L.invariant.0 (omega (arith, L.invariant.1, c.requires.0)) c.loop-i-test.true (out ∙ c.numerator.ensures), L.invariant.1)

pub returns : goal.returns
returns c =
    let L = c.loop-i in
    (L.invariant.1 ∙ sym L.invariant.0.long, filled_front _ _ L.i _ L.weights L.invariant.0.so_far c.loop-i-test.false L.invariant.0.front)
