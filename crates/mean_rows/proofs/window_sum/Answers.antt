-- `mean_rows::window_sum` meets its contract. Assumes nothing.
use Rattle.std.proofs.Common.{◌+◌, arith}
use Rattle.mean_rows.specs.Corners.{corners}
use Rattle.mean_rows.proofs.Corners.{wrapped_differences}
use Rattle.mean_rows.proofs.window_sum.Goals as goal

pub returns : goal.returns
unfolding corners
returns c =
    let a = c.args in
    wrapped_differences _ _ _ _ (omega (arith, c.type_inv.upper (a.across + a.u))) (omega (arith, c.type_inv.lower a.u)) (omega (arith, c.type_inv.upper a.u))
