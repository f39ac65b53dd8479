-- `places::inside` meets its contract: where the place is says which. Assumes nothing.
use native.Mathlib.Nat.{lt_of_not-le}
use mathlib.Core.Path.{sym, ap, ◌∙◌}
use Rattle.std.proofs.Common.{Some}
use Rattle.places.proofs.PlaceLaws.{constant_before, constant_in, constant_after}
use Rattle.places.proofs.inside.Goals as goal

pub returns-in_err-u : goal.returns-in_err-u
returns-in_err-u c =
    c.from_residual.ensures ∙ sym (constant_before _ _ (lt_of_not-le (c.in_err-u.ensures)))

pub returns-then-u-n : goal.returns-then-u-n
returns-then-u-n c =
    let u = c.in_ok-u.ensures in
    ap Some u.1 ∙ sym (constant_in _ _ u.0 (rw u.1 at c.if-u-n.true))

pub returns-else-u-n : goal.returns-else-u-n
returns-else-u-n c =
    let u = c.in_ok-u.ensures in
    sym (constant_after _ _ u.0 (rw u.1 at c.if-u-n.false))
