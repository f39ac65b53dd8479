-- `tap_fields::fields` meets its contract. Assumes nothing.
use mathlib.Core.Path.{sym}
use Rattle.std.proofs.lemmas.Result.{err_from_is_err_and}
use Rattle.axis_fields.specs.AxisFields.{size_tests}
use Rattle.tap_fields.specs.TapFields.{tap_tests}
use Rattle.refusals.proofs.Passed.{refused_first}
use Rattle.tap_fields.proofs.fields.Goals as goal

pub returns-in_err-sizes : goal.returns-in_err-sizes
unfolding tap_tests
returns-in_err-sizes c =
    let p = err_from_is_err_and c.from_residual.result c.from_residual.ensures.1 in
    rw (p.1, p.2) (refused_first (size_tests c.args.real c.args.part.now) _ (sym c.in_err-sizes.ensures))
