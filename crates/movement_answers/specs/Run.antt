-- One of two runs of the file call with the archive's limits: a recipe, a still and what is lent to it.
use Rattle.std.specs.Prelude.{ℕ, List, [], Result, Ok, Err}
use Rattle.refusals.specs.declared.Refusal.{Refusal}
use Rattle.model.specs.Stage.{Stage}
use Rattle.still_reader.specs.Read.{still_of}
use Rattle.recipe.specs.Recipe.{recipe_stages}
use Rattle.answers.specs.declared.Filtered.{Filtered}
use Rattle.room.specs.declared.Lent.{Lent}
use Rattle.filter_answers.specs.Limits.{archive}
use Rattle.filter_answers.specs.FileAnswer.{samples_of, picture_answer, file_answer}
use Rattle.raster_filter.specs.FilteredRaster.{filtered_raster}

pub record Run : Type 0 where
  pub recipe : List ℕ
  pub still : List ℕ
  pub lent : Lent

abbrev pub run : List ℕ → List ℕ → Lent → Run
run recipe still l = record { recipe = recipe; still = still; lent = l }

-- its stages
abbrev pub stages : Run → List Stage
stages r = recipe_stages r.recipe

-- the samples of its still
abbrev pub samples : Run → List ℕ
samples r = samples_of (still_of r.still) r.still

-- what it comes to, whatever is lent: its picture, or the recipe's refusal, or the still's
abbrev pub asked : Run → Result Filtered Refusal
asked r = picture_answer archive r.recipe r.still

-- its answer, with what is lent
abbrev pub file_of : Run → Result Filtered Refusal
file_of r = file_answer archive r.recipe r.still r.lent

-- a picture's filtered samples, which the file call writes
abbrev pub raster_of : Result Filtered Refusal → List Stage → List ℕ → List ℕ
raster_of (Err refusal) ts raster = []
raster_of (Ok p) ts raster = filtered_raster p.width p.height p.channels ts raster

unfoldable pub filtered : Run → List ℕ
filtered r = raster_of (asked r) (stages r) (samples r)
