-- `axis_fields::offsets` meets its contract: the verdict on the whole is that on what is left. Assumes nothing.
use mathlib.Core.Path.{sym, ap, ◌∙◌}
use Rattle.std.proofs.lemmas.Result.{err_from_is_err_and}
use lib.IntN.{pos, ◌+ℤ◌}
use Rattle.recipe_bytes.specs.Bytes.{signed8}
use Rattle.recipe_bytes.proofs.ByteLaws.{byte_read, byte_past}
use Rattle.axis_fields.proofs.OffsetLaws.{axis_start, offset_end, offset-cut, offset_good, offset_bad}
use Rattle.axis_fields.proofs.offsets.Goals as goal

pub loop-i-init : goal.loop-i-init
loop-i-init c =
    axis_start _ _

pub returns-in_err-byte_at : goal.returns-in_err-byte_at
returns-in_err-byte_at c =
    let L = c.loop-i in
    let p = err_from_is_err_and c.from_residual.result c.from_residual.ensures.1 in
    let b = byte_past _ _ c.in_err-byte_at.ensures in
    rw (p.1, p.2, b.1) (sym (L.invariant ∙ offset-cut L.least c.args.n L.i c.args.part.now c.loop-i-test.true b.0))

pub returns-then-o-least : goal.returns-then-o-least
returns-then-o-least c =
    let L = c.loop-i in
    let b = byte_read _ _ c.in_ok-byte_at.ensures in
    let o = c.raised_offset-o.ensures.0 ∙ ap (λ x. signed8 x +ℤ pos 128) b.1 in
    sym (L.invariant ∙ offset_bad L.least c.args.n L.i c.args.part.now c.raised_offset-o.result c.loop-i-test.true b.0 o c.then-o-least.either)

pub loop-i-preserved : goal.loop-i-preserved
loop-i-preserved c =
    let L = c.loop-i in
    let b = byte_read _ _ c.in_ok-byte_at.ensures in
    let o = c.raised_offset-o.ensures.0 ∙ ap (λ x. signed8 x +ℤ pos 128) b.1 in
    L.invariant ∙ offset_good L.least c.args.n L.i c.args.part.now c.raised_offset-o.result c.loop-i-test.true b.0 o c.if-o-least.false c.if-o-gt143.false

pub returns : goal.returns
returns c =
    let L = c.loop-i in
    sym (L.invariant ∙ offset_end L.least c.args.n L.i c.args.part.now c.loop-i-test.false)
