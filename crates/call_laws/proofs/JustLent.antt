-- A RUN THAT IS LENT JUST WHAT `needs` NAMES IS NOT REFUSED, and one that is lent less is refused with 20: of every run of `filter_file` on a still with its whole
-- raster and nothing after it, with the archive's limits. The T and the length of its output are those that were named. Assumes nothing.
use Prim.Native.Nat.{ℕ, ◌+◌, ◌*◌}
use mathlib.Core.Path.{◌≡◌, ◌∙◌}
use mathlib.Core.List.{List}
use lib.ListN.{length}
use lib.IntN.{ℤ}
use Rattle.std.specs.Prelude.{Result, Ok, Err}
use Rattle.refusals.specs.declared.Refusal.{Refusal}
use Rattle.refusals.specs.declared.Refusal.TheVariants.{Room}
use Rattle.answers.specs.declared.Picture.{Picture}
use Rattle.answers.specs.declared.Filtered.{Filtered}
use Rattle.answers.specs.declared.Needs.{Needs}
use Rattle.still_reader.specs.Head.{head_of}
use Rattle.room.specs.Room.{lent}
use Rattle.filter_answers.specs.Limits.{archive}
use Rattle.buffer_needs.specs.NeedsAnswer.{needs_answer}
use Rattle.room.proofs.Suffices.{Short}
use Rattle.buffer_needs.proofs.JustEnough.{named_lent, named_answer, just_enough, too_little}
use Rattle.file_filter.specs.FiltersFile.{FiltersFile}

module _ (recipe still : List ℕ) {need : Needs} (named : needs_answer recipe still ≡ Ok need)
    {p : Picture} (head : head_of still ≡ Ok p) (whole : length still ≡ p.start + p.width * p.height * p.channels)
    (workBuffer work' : List ℕ) (rowBuffer row' : List ℤ) (sumBuffer sum' outBuffer out' : List ℕ) {answer : Result Filtered Refusal}
    (run : FiltersFile archive recipe still workBuffer work' rowBuffer row' sumBuffer sum' outBuffer out' answer) where
  pub run_with_just_these : length workBuffer ≡ need.works → length rowBuffer ≡ need.rows → length sumBuffer ≡ need.sums → length outBuffer ≡ need.out → answer ≡ Ok (named_answer need p)
  run_with_just_these a b d e = run.answered ∙ rw (a, b, d, e) (just_enough recipe still named head whole)

  pub run_with_less : Short (named_lent need) (lent (length workBuffer) (length rowBuffer) (length sumBuffer) (length outBuffer)) → answer ≡ Err Room
  run_with_less short = run.answered ∙ too_little recipe still named head whole (lent (length workBuffer) (length rowBuffer) (length sumBuffer) (length outBuffer)) short
