-- `verdicts::all_near` meets its contract: all channels so far are near, and the first that is not decides. Assumes nothing.
use mathlib.Core.Path.{◌≡◌}
use mathlib.Core.Bool.{true}
use Rattle.recipe.specs.Recipe.{recipe_stages}
use Rattle.near_rows.specs.Everywhere.{everywhere}
use Rattle.verdicts.proofs.Verdicts.{channel_test}
use Rattle.verdicts.proofs.all_near.Given as goal

abbrev pub invariant-loop-k : goal.invariant-loop-k
invariant-loop-k l = everywhere l.k (channel_test l.c l.w l.h l.channels (recipe_stages l.recipe) l.raw l.received) ≡ true
