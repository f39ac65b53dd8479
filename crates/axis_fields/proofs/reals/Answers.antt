-- `axis_fields::reals` meets its contract: the verdict on the whole is that on what is left. Assumes nothing.
use native.Mathlib.Omega.{arith}
use mathlib.Core.Path.{sym, ◌∙◌}
use Rattle.axis_fields.proofs.RealLaws.{real_end, real_cut, real_good, real_bad}
use Rattle.axis_fields.proofs.reals.Goals as goal

pub returns-then-part-i : goal.returns-then-part-i
returns-then-part-i c =
    let L = c.loop-i in
    sym (L.invariant ∙ real_cut c.args.n L.i c.args.part.now c.loop-i-test.true (omega arith))

pub returns-then-not-is_real_weight : goal.returns-then-not-is_real_weight
returns-then-not-is_real_weight c =
    let L = c.loop-i in
    sym (L.invariant ∙ real_bad c.args.n L.i c.args.part.now c.loop-i-test.true c.if-part-i.false (rw (← c.bits_at.ensures) (sym c.if-not-is_real_weight.ensures)))

pub loop-i-preserved : goal.loop-i-preserved
loop-i-preserved c =
    let L = c.loop-i in
    L.invariant ∙ real_good c.args.n L.i c.args.part.now c.loop-i-test.true c.if-part-i.false (rw (← c.bits_at.ensures) (sym c.if-not-is_real_weight.ensures))

pub returns : goal.returns
returns c =
    let L = c.loop-i in
    sym (L.invariant ∙ real_end c.args.n L.i c.args.part.now c.loop-i-test.false)
