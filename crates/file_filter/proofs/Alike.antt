-- WHAT THE PANEL ACCEPTS, THE ARCHIVE FILTERS ALIKE: two calls on one recipe and one still, with limits of which one is at most the other. Assumes nothing.
use Prim.Native.Nat.{ℕ}
use native.Mathlib.Omega.{arith}
use mathlib.Core.Path.{◌≡◌, sym, ap, ◌∙◌}
use mathlib.Core.Bool.{false}
use mathlib.Core.List.{List}
use lib.ListN.{length}
use lib.IntN.{ℤ}
use Rattle.std.specs.Prelude.{Result, Ok, Err, is_err}
use Rattle.refusals.specs.declared.Refusal.{Refusal}
use Rattle.answers.specs.declared.Filtered.{Filtered}
use Rattle.still_reader.specs.Read.{still_of}
use Rattle.recipe.specs.Recipe.{recipe_stages}
use Rattle.room.specs.Room.{lent}
use Rattle.filter_answers.specs.declared.Limits.{Limits}
use Rattle.filter_answers.specs.Limits.{archive, panel, AtMost}
use Rattle.filter_answers.specs.FileAnswer.{samples_of, file_answer}
use Rattle.filter_answers.proofs.Wider.{accepted_alike, panel_within}
use Rattle.file_filter.specs.FiltersFile.{file_output, FiltersFile}

-- the same answer, with its T, and the same bytes in the whole of the lent output
pub record Alike (answer1 answer2 : Result Filtered Refusal) (out1 out2 : List ℕ) : Type 0 where
  pub answer : answer1 ≡ answer2
  pub output : out1 ≡ out2

-- both are lent buffers of the same lengths and the same output; the work buffers may hold anything
module _ {recipe still work1 work2 work1' work2' : List ℕ} {rows1 rows2 rows1' rows2' : List ℤ} {sums1 sums2 sums1' sums2' out out1' out2' : List ℕ} {answer1 answer2 : Result Filtered Refusal}
    (same-lengths : lent (length work1) (length rows1) (length sums1) (length out) ≡ lent (length work2) (length rows2) (length sums2) (length out)) where
  pub alike : {a b : Limits} → AtMost a b
      → FiltersFile a recipe still work1 work1' rows1 rows1' sums1 sums1' out out1' answer1
      → FiltersFile b recipe still work2 work2' rows2 rows2' sums2 sums2' out out2' answer2
      → is_err answer1 ≡ false → Alike answer1 answer2 out1' out2'
  alike {a} {b} w f g accepted =
      let same = by_answer answer1 f.answered accepted ∙ sym g.answered in
      record { answer = same; output = f.output ∙ ap (λ (x : Result Filtered Refusal). file_output x (recipe_stages recipe) (samples_of (still_of still) still) out) same ∙ sym g.output }
    where
      by_answer : (x : Result Filtered Refusal) → x ≡ file_answer a recipe still (lent (length work1) (length rows1) (length sums1) (length out)) → is_err x ≡ false
          → x ≡ file_answer b recipe still (lent (length work2) (length rows2) (length sums2) (length out))
      by_answer (Err n) e r = let z : ◌≡◌ {A = ℕ} 0 1 = cc in absurd (omega arith)
      by_answer (Ok p) e r = sym (accepted_alike w recipe still _ (sym e)) ∙ ap (file_answer b recipe still) same-lengths

  -- so of the panel and the archive
  pub panel_alike : FiltersFile panel recipe still work1 work1' rows1 rows1' sums1 sums1' out out1' answer1
      → FiltersFile archive recipe still work2 work2' rows2 rows2' sums2 sums2' out out2' answer2
      → is_err answer1 ≡ false → Alike answer1 answer2 out1' out2'
  panel_alike = alike panel_within
