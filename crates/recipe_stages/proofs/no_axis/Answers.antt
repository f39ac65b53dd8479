-- `recipe_stages::no_axis` meets its contract: without taps an axis is light. Assumes nothing.
use native.Mathlib.Nat.{not-suc-le-zero}
use native.Mathlib.Omega.{arith}
use Rattle.recipe_stages.proofs.no_axis.Goals as goal

pub returns : goal.returns
returns c =
    record { few = omega arith; near = λ i h. absurd (not-suc-le-zero h); size = omega arith }
