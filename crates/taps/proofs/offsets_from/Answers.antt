-- `taps::offsets_from` meets its contract. Assumes nothing.
use native.Mathlib.Omega.{arith}
use mathlib.Core.Path.{sym}
use Rattle.lists.proofs.Tabulate.{fill_none, fill_more, filled_front, length_filled}
use Rattle.taps.specs.Held.{held_offset}
use Rattle.taps.proofs.offsets_from.Goals as goal

pub loop-i-init : goal.loop-i-init
loop-i-init c =
    fill_none _ _

pub overflow_sub-held : goal.overflow_sub-held
overflow_sub-held c =
    omega (arith, c.raised_offset.ensures.1, (c.requires.2 c.loop-i.i c.loop-i-test.true).0)

pub loop-i-preserved : goal.loop-i-preserved
unfolding held_offset
loop-i-preserved c =
    let L = c.loop-i in
    let h = c.requires.2 L.i c.loop-i-test.true in
    fill_more _ _ _ _ _ (omega arith) L.invariant (omega (arith, c.raised_offset.ensures.1, h.0, h.1))

pub returns : goal.returns
returns c =
    let L = c.loop-i in
    (rw L.invariant (sym (length_filled _ L.i _ (omega (arith, c.requires.0)))), filled_front _ c.args.n L.i _ _ (omega arith) c.loop-i-test.false L.invariant)
