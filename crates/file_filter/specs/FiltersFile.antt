-- What `filter_file` answers and writes.
use Rattle.std.specs.Prelude.{ℕ, ◌+◌, ◌*◌, ◌<◌, ◌≡◌, List, ◌++◌, length, get_or, drop, ℤ, Result, Ok, Err, is_err}
use Rattle.refusals.specs.declared.Refusal.{Refusal}
use Rattle.model.specs.Stage.{Stage}
use Rattle.model.specs.Exact.{exact, exact_denominator}
use Rattle.model.specs.Within.{Within}
use Rattle.still_reader.specs.Read.{still_of}
use Rattle.header_writer.specs.Heading.{header_bytes}
use Rattle.recipe.specs.Recipe.{recipe_stages}
use Rattle.channels.specs.Channel.{channel}
use Rattle.answers.specs.declared.Filtered.{Filtered}
use Rattle.room.specs.Room.{lent, Kept}
use Rattle.filter_answers.specs.declared.Limits.{Limits}
use Rattle.filter_answers.specs.FileAnswer.{samples_of, file_answer}
use Rattle.raster_filter.specs.FilteredRaster.{filtered_raster}

-- the output after an answer: as before a refusal, else header, filtered raster and the old tail
abbrev pub file_output : Result Filtered Refusal → List Stage → List ℕ → List ℕ → List ℕ
file_output (Err r) ts raster out = out
file_output (Ok f) ts raster out = header_bytes f.width f.height f.channels ++ (filtered_raster f.width f.height f.channels ts raster ++ drop f.len out)

-- demand 3: each written sample of each channel lies within T of the exact result of that channel
abbrev pub FileWithin : Result Filtered Refusal → List Stage → List ℕ → List ℕ → Type 0
FileWithin (Err r) ts raster out = Unit {0}
FileWithin (Ok f) ts raster out =
    (k u v : ℕ) → k < f.channels → u < f.width → v < f.height
    → Within f.tolerance (exact_denominator ts) (get_or out (length (header_bytes f.width f.height f.channels) + ((v * f.width + u) * f.channels + k)) 0)
    (get_or (exact f.width f.height ts (channel f.channels (f.width * f.height) raster k)) (v * f.width + u) 0)

-- what `filter_file` ensures to a caller with limits m
pub record FiltersFile (m : Limits) (recipe still work work' : List ℕ) (rows rows' : List ℤ) (sums sums' out out' : List ℕ) (answer : Result Filtered Refusal) : Type 0 where
  pub answered : answer ≡ file_answer m recipe still (lent (length work) (length rows) (length sums) (length out))
  pub output : out' ≡ file_output answer (recipe_stages recipe) (samples_of (still_of still) still) out
  pub within : FileWithin answer (recipe_stages recipe) (samples_of (still_of still) still) out'
  pub work-kept : Kept (is_err answer) work work'
  pub rows-kept : Kept (is_err answer) rows rows'
  pub sums_kept : Kept (is_err answer) sums sums'
