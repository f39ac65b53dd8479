-- What the program lends, answers and saves.
use Rattle.std.specs.Prelude.{ℕ, ◌≡◌, false, List, [], ◌++◌, take, Result, Ok, Err, is_err}
use Rattle.refusals.specs.declared.Refusal.{Refusal}
use Rattle.model.specs.Stage.{Stage}
use Rattle.answers.specs.declared.Filtered.{Filtered}
use Rattle.still_reader.specs.Read.{still_of}
use Rattle.header_writer.specs.Heading.{header_bytes}
use Rattle.recipe.specs.Recipe.{recipe_stages}
use Rattle.room.specs.declared.Lent.{Lent}
use Rattle.room.specs.Room.{lent}
use Rattle.filter_answers.specs.Limits.{archive}
use Rattle.filter_answers.specs.FileAnswer.{samples_of, file_answer}
use Rattle.raster_filter.specs.FilteredRaster.{filtered_raster}
use Rattle.file_filter.specs.FiltersFile.{FileWithin}

-- the program's buffers: 32,768 work bytes, 16,384 row values, 16,384 sums, 65,536 output bytes
abbrev pub program_lent : Lent
program_lent = lent 32768 16384 16384 65536

-- what the program answers to a still and a recipe that could be read, with the archive's limits
unfoldable pub program_answer : List ℕ → List ℕ → Result Filtered Refusal
program_answer recipe still = file_answer archive recipe still program_lent

-- how many bytes of the output are saved after an answer, and which: the header and the filtered raster
abbrev pub saved_length : Result Filtered Refusal → ℕ
saved_length (Err r) = 0
saved_length (Ok f) = f.len

abbrev pub saved_bytes : Result Filtered Refusal → List Stage → List ℕ → List ℕ
saved_bytes (Err r) ts raster = []
saved_bytes (Ok f) ts raster = header_bytes f.width f.height f.channels ++ filtered_raster f.width f.height f.channels ts raster

-- what `filter_still` ensures of its answer, of the output's front, and of each sample in it: demand 3
pub record FiltersStill (recipe still out : List ℕ) (answer : Result Filtered Refusal) : Type 0 where
  pub answered : answer ≡ program_answer recipe still
  pub saved : take (saved_length answer) out ≡ saved_bytes answer (recipe_stages recipe) (samples_of (still_of still) still)
  pub within : FileWithin answer (recipe_stages recipe) (samples_of (still_of still) still) out

-- what may be saved for a still and a recipe: nothing where the answer is a refusal
pub record Saves (recipe still bytes : List ℕ) : Type 0 where
  pub accepted : is_err (program_answer recipe still) ≡ false
  pub filtered : bytes ≡ saved_bytes (program_answer recipe still) (recipe_stages recipe) (samples_of (still_of still) still)
