-- `window_means::area` meets its contract. Assumes nothing.
use native.Mathlib.Omega.{arith}
use mathlib.Core.Path.{refl}
use Rattle.model.specs.Window as Model
use Rattle.model_laws.proofs.Window.{area-le}
use Rattle.window_means.proofs.area.Goals as goal

pub overflow_mul-result-3 : goal.overflow_mul-result-3
unfolding Model.area
overflow_mul-result-3 c =
    record { fits = omega (arith, area-le c.args.window.r c.args.window.s 15 15 c.args.window.near.0 c.args.window.near.1) }

pub overflow_cast-result : goal.overflow_cast-result
unfolding Model.area
overflow_cast-result c =
    omega (arith, area-le c.args.window.r c.args.window.s 15 15 c.args.window.near.0 c.args.window.near.1)

pub returns : goal.returns
unfolding Model.area
returns c =
    refl
