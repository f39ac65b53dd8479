-- `raster_filter::filter_raster` meets its contract: the channels so far are in place, and all else is as it was. Assumes nothing.
use Prim.Native.Nat.{ℕ}
use mathlib.Core.Path.{◌≡◌}
use mathlib.Core.List.{List}
use lib.ListN.{get_or}
use Rattle.model.specs.Stage.{written}
use Rattle.recipe.specs.Recipe.{recipe_stages}
use Rattle.channels.specs.Channel.{channel, placed}
use Rattle.raster_filter.proofs.filter_raster.Given as goal

-- the filtered planes
abbrev pub planes : List ℕ → ℕ → ℕ → ℕ → ℕ → List ℕ → ℕ → List ℕ
planes recipe w h channels n raster k = written w h (recipe_stages recipe) (channel channels n raster k)

abbrev pub invariant-loop-c : goal.invariant-loop-c
invariant-loop-c l = (k : ℕ) → get_or l.out k 0 ≡ placed l.channels l.n (planes l.recipe l.w l.h l.channels l.n l.raster) l.initial.out l.c k
