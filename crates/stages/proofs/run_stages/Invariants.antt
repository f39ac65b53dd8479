-- `stages::run_stages` meets its contract: stage by stage. Assumes nothing.
use Prim.Native.Nat.{◌*◌, ◌-◌, ◌≤◌}
use mathlib.Core.Path.{◌≡◌}
use lib.ListN.{length, take}
use Rattle.model.specs.Stage.{written}
use Rattle.recipe.specs.Recipe.{stages_of, recipe_stages}
use Rattle.table_sizes.specs.Needs.{sum_need}
use Rattle.room.proofs.Rest.{Rest}
use Rattle.stages.proofs.run_stages.Given as goal

abbrev pub invariant-loop : goal.invariant-loop
invariant-loop l = record {
  left : Rest l.bytes l.end l.counter l.rest;
  enough-sums : sum_need l.w (stages_of (l.end - l.counter) l.rest) ≤ length l.sums;
  done : written l.w l.h (recipe_stages l.bytes) (take (l.h * l.w) l.initial.work) ≡ written l.w l.h (stages_of (l.end - l.counter) l.rest) (take (l.h * l.w) l.work);
  work-length : length l.work ≡ length l.initial.work;
  rows-length : length l.rows ≡ length l.initial.rows;
}
