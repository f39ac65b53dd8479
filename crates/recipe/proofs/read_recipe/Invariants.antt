-- `recipe::read_recipe` meets its contract. Assumes nothing.
use Prim.Native.Nat.{◌≤◌}
use mathlib.Core.Path.{◌≡◌}
use lib.ListN.{length}
use Rattle.recipe.specs.Recipe.{recipe_of}
use Rattle.recipe.proofs.Chain.{left}
use Rattle.recipe.proofs.read_recipe.Given as goal

abbrev pub invariant-loop : goal.invariant-loop
invariant-loop l = record { inside : l.at ≤ length l.recipe; cut : l.total.units ≤ 16711680; rest : recipe_of l.recipe ≡ left l.recipe l.count l.counter l.at l.total.units }
