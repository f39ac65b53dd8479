-- `room::sum_need` meets its contract: stage by stage. Assumes nothing.
use Prim.Native.Nat.{◌-◌, max}
use mathlib.Core.Path.{◌≡◌}
use Rattle.recipe.specs.Recipe.{stages_of, recipe_stages}
use Rattle.table_sizes.specs.Needs.{sum_need}
use Rattle.room.proofs.Rest.{Rest}
use Rattle.room.proofs.sum_need.Given as goal

abbrev pub invariant-loop : goal.invariant-loop
invariant-loop l = record {
  left : Rest l.bytes l.end l.counter l.rest;
  most : sum_need l.w (recipe_stages l.bytes) ≡ max l.need (sum_need l.w (stages_of (l.end - l.counter) l.rest));
}
