-- What the calls on a background ensure: the call beneath, and its answer told.
use Rattle.std.specs.Prelude.{ℕ, List, length}
use Rattle.background.specs.Background.{Background}
use Rattle.background.specs.Change.{Outcome}
use Rattle.background.specs.Mean.{mean_answer}
use Rattle.background.specs.Memory.{answer_of, Changes, Means}
use Rattle.told.specs.Numbers.{Tells, changed_told, mean_told}

-- `add_still` or `remove_still`, for the outcome that its definition gives, and what is held told in the array that said it
pub record ChangesBackground (o : Outcome) (rasters rasters' labels labels' array array' : List ℕ) (r : ℕ) : Type 0 where
  pub changed : Changes o rasters rasters' labels labels' (answer_of o)
  pub told : Tells (changed_told (answer_of o)) array array' r

-- `mean_still`, for the answer that its definition gives on background b
pub record MeansStills (b : Background) (rasters labels out out' array array' : List ℕ) (r : ℕ) : Type 0 where
  pub written : Means b rasters labels out out' (mean_answer (length rasters) (length labels) (length out) b)
  pub told : Tells (mean_told (mean_answer (length rasters) (length labels) (length out) b)) array array' r
