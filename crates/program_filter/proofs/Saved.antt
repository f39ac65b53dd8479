-- What of the file call's output is saved. Assumes nothing.
use Prim.Native.Nat.{ℕ, ◌+◌, ◌≤◌}
use native.Mathlib.Omega.{arith}
use mathlib.Core.Path.{◌≡◌, refl, sym, ap, ◌∙◌}
use mathlib.Core.List.{List, ◌++◌, append_assoc}
use lib.ListN.{length, take, length-append, length-take}
use lib.IntN.{ℤ}
use lib.Seq.{take_at}
use Rattle.std.specs.Prelude.{Result, Ok, Err, is_err}
use Rattle.refusals.specs.declared.Refusal.{Refusal}
use Rattle.answers.specs.declared.Filtered.{Filtered}
use Rattle.still_reader.specs.Read.{still_of}
use Rattle.header_writer.specs.Heading.{header_bytes}
use Rattle.recipe.specs.Recipe.{recipe_stages}
use Rattle.room.specs.declared.Lent.{Lent}
use Rattle.room.specs.Room.{lent}
use Rattle.filter_answers.specs.declared.Limits.{Limits}
use Rattle.filter_answers.specs.Limits.{archive}
use Rattle.filter_answers.specs.FileAnswer.{file_size, samples_of, file_answer}
use Rattle.filter_answers.proofs.FileAccepted.{file_accepted}
use Rattle.raster_filter.specs.FilteredRaster.{filtered_raster}
use Rattle.raster_filter.proofs.FilteredLaws.{filtered-length}
use Rattle.file_filter.specs.FiltersFile.{file_output, FiltersFile}
use Rattle.program_filter.specs.Program.{program_lent, program_answer, saved_length, saved_bytes, FiltersStill, Saves}

-- two lists in front of a third
pub front_two : (head middle tail whole : List ℕ) (n : ℕ) → n ≡ length head + length middle → whole ≡ head ++ (middle ++ tail) → take n whole ≡ head ++ middle
front_two head middle tail whole n e o = rw (o, ← append_assoc head middle tail) (take_at (head ++ middle) tail n (rw length-append (omega (arith, e))))

-- the front of the output after an answer of the file call
pub saved_front : (m : Limits) (recipe still out out' : List ℕ) (l : Lent) (answer : Result Filtered Refusal) → answer ≡ file_answer m recipe still l
    → out' ≡ file_output answer (recipe_stages recipe) (samples_of (still_of still) still) out
    → take (saved_length answer) out' ≡ saved_bytes answer (recipe_stages recipe) (samples_of (still_of still) still)
unfolding file_size
saved_front m recipe still out out' l (Err r) e o = refl
saved_front m recipe still out out' l (Ok f) e o =
    let ts = recipe_stages recipe in
    let raster = samples_of (still_of still) still in
    front_two (header_bytes f.width f.height f.channels) (filtered_raster f.width f.height f.channels ts raster) _ out' f.len
    (omega (arith, (file_accepted m recipe still l (sym e)).size_is, filtered-length f.width f.height f.channels ts raster)) o

-- the file call, lent what the program lends: buffers of these lengths, and these lengths are the program's
pub still_filters : {recipe still work work' : List ℕ} {rows rows' : List ℤ} {sums sums' out out' : List ℕ} {answer : Result Filtered Refusal} {w r s o : ℕ}
    → FiltersFile archive recipe still work work' rows rows' sums sums' out out' answer
    → w ≡ length work → r ≡ length rows → s ≡ length sums → o ≡ length out
    → lent w r s o ≡ program_lent
    → FiltersStill recipe still out' answer
unfolding program_answer
still_filters {recipe} {still} {out = out} {out' = out'} {answer = answer} f ew er es eo l =
    let e : answer ≡ file_answer archive recipe still program_lent = f.answered ∙ rw (← ew, ← er, ← es, ← eo, l) in
    record { answered = e; saved = saved_front archive recipe still out out' program_lent answer e f.output; within = f.within }

-- where the program has a picture, its length fits the output, and that front may be saved
module _ {recipe still out : List ℕ} {answer : Result Filtered Refusal} (f : FiltersStill recipe still out answer) {g : Filtered} (p : answer ≡ Ok g) where
  front : take g.len out ≡ header_bytes g.width g.height g.channels ++ filtered_raster g.width g.height g.channels (recipe_stages recipe) (samples_of (still_of still) still)
  front = rw p at f.saved

  pub length-fits : g.len ≤ length out
  unfolding program_answer file_size
  length-fits =
      omega (
        arith,
        length-take g.len out,
        ap length front,
        length-append (header_bytes g.width g.height g.channels) (filtered_raster g.width g.height g.channels (recipe_stages recipe) (samples_of (still_of still) still)),
        filtered-length g.width g.height g.channels (recipe_stages recipe) (samples_of (still_of still) still),
        (file_accepted archive recipe still program_lent (sym f.answered ∙ p)).size_is,
      )

  pub front_saves : Saves recipe still (take g.len out)
  front_saves = record {
    accepted = ap is_err (sym f.answered ∙ p);
    filtered = front ∙ ap (λ (a : Result Filtered Refusal). saved_bytes a (recipe_stages recipe) (samples_of (still_of still) still)) (sym p ∙ f.answered);
  }
