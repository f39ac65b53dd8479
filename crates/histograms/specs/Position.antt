-- The level at which the sum of the counts reaches a position.
use Rattle.std.specs.Prelude.{ℕ, ◌+◌, ◌≤◌, ◌<◌, ◌≡◌, List}
use Rattle.histograms.specs.Histogram.{total}
use Rattle.histograms.specs.declared.Reached.{Reached}

-- a level, with the sum of the counts below it
abbrev pub Summed : List ℕ → Reached → Type 0
Summed counts at = at.below ≡ total counts at.level

-- the sum reaches position p there, and not before
pub record Reaches (counts : List ℕ) (p : ℕ) (at : Reached) : Type 0 where
  pub summed : Summed counts at
  pub before : at.below < p
  pub there : p ≤ total counts (at.level + 1)
