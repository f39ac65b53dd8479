-- THE ARCHIVE'S LIMITS REFUSE NOTHING: no recipe and no still that is read passes them, so the answers are those of a call without limits. Assumes nothing.
use Prim.Native.Nat.{ℕ, ◌+◌, ◌*◌, ◌≤◌}
use native.Mathlib.Omega.{arith}
use mathlib.Core.Path.{◌≡◌, refl, sym, ap, ◌∙◌}
use mathlib.Core.List.{List, [], ◌∷◌}
use lib.ListN.{length, drop}
use borrow.Author.Tests.{le-leb}
use Rattle.std.specs.Prelude.{Result, Ok, Err}
use Rattle.refusals.specs.declared.Refusal.{Refusal}
use Rattle.refusals.specs.Refusal.{Verdict, tested, verdict}
use Rattle.refusals.proofs.Passed.{all_pass, between, passed_whole, refused-part, refused-whole}
use Rattle.model.specs.Tolerance.{tolerance}
use Rattle.answers.specs.declared.Picture.{Picture}
use Rattle.answers.specs.declared.Filtered.{Filtered}
use Rattle.still_reader.specs.Read.{still_of}
use Rattle.recipe_bytes.specs.Bytes.{at}
use Rattle.recipe.specs.Recipe.{recipe_tests, recipe_stages}
use Rattle.recipe.proofs.Accepted.{stages-count}
use Rattle.room.specs.declared.Lent.{Lent}
use Rattle.filter_answers.specs.declared.Limits.{Limits}
use Rattle.filter_answers.specs.Limits.{limits, archive, stage_limit_test, AtMost}
use Rattle.filter_answers.specs.FileAnswer.{filtered, still_answer, picture_answer, lending, file_answer}
use Rattle.filter_answers.proofs.FileAccepted.{shown, still_done, picture_left}
use Rattle.filter_answers.proofs.Wider.{LimitedOr, wider_file}

-- ---- the answers of a call without limits, as they were defined before 2026-07: to compare with, and for nothing else

-- the still's refusal, or its size, T and how many bytes are to be written
abbrev pub unlimited_still : ℕ → Result Picture Refusal → Result Filtered Refusal
unlimited_still T (Err r) = Err r
unlimited_still T (Ok p) = Ok (filtered p T)

-- the recipe's refusals, then the still's
abbrev pub unlimited_picture : List ℕ → List ℕ → Result Filtered Refusal
unlimited_picture recipe still = tested Err (recipe_tests recipe) (unlimited_still (tolerance (recipe_stages recipe)) (still_of still))

-- then 20
abbrev pub unlimited_file : List ℕ → List ℕ → Lent → Result Filtered Refusal
unlimited_file recipe still l = lending (recipe_stages recipe) l (unlimited_picture recipe still)

-- ---- limits that are at least the archive's

module _ {m : Limits} (w : AtMost archive m) where
  -- no recipe that is accepted has more stages
  pub stages_within : (recipe : List ℕ) → verdict (recipe_tests recipe) ≡ Ok tt → length (recipe_stages recipe) ≤ m.stages
  unfolding recipe_tests recipe_stages
  stages_within recipe e = omega (arith, stages-count (at recipe 0) (drop 1 recipe), (between 1 (at recipe 0) 8 (all_pass (recipe_tests recipe) e).1.0).1, w.stages)

  -- no still that is read has more samples a plane
  pub samples_within : (still : List ℕ) {p : Picture} → still_of still ≡ Ok p → p.width * p.height ≤ m.samples
  samples_within still e = omega (arith, (shown still e).plane_small, w.samples)

  same-still : (still : List ℕ) (T : ℕ) (s : Result Picture Refusal) → still_of still ≡ s → still_answer m T s ≡ unlimited_still T s
  same-still still T (Err r) e = refl
  same-still still T (Ok p) e = still_done m T p (samples_within still e)

  pub no_limit_picture : (recipe still : List ℕ) → picture_answer m recipe still ≡ unlimited_picture recipe still
  unfolding picture_answer
  no_limit_picture recipe still = by_recipe (verdict (recipe_tests recipe)) refl
    where
      T : ℕ
      T = tolerance (recipe_stages recipe)

      by_recipe : (v : Verdict) → verdict (recipe_tests recipe) ≡ v → picture_answer m recipe still ≡ unlimited_picture recipe still
      by_recipe (Err r) e = refused-part Err (stage_limit_test m (recipe_stages recipe) ∷ []) _ (recipe_tests recipe) e ∙ sym (refused-whole Err _ (recipe_tests recipe) e)
      by_recipe (Ok u) e =
          picture_left m recipe still e (stages_within recipe e)
          ∙ same-still still T (still_of still) refl
          ∙ sym (passed_whole Err _ (recipe_tests recipe) e)

  pub no_limit_file : (recipe still : List ℕ) (l : Lent) → file_answer m recipe still l ≡ unlimited_file recipe still l
  unfolding file_answer
  no_limit_file recipe still l = ap (lending (recipe_stages recipe) l) (no_limit_picture recipe still)

-- the archive's limits are at most themselves
pub archive_itself : AtMost archive archive
archive_itself = record { stages = omega arith; samples = omega arith }

-- ---- any limits: the answer without them, or 28, or 29

module _ (m : Limits) (recipe still : List ℕ) (l : Lent) where
  -- limits that are wider than both
  abbrev both : Limits
  both = limits (m.stages + archive.stages) (m.samples + archive.samples)

  pub limited_file : LimitedOr (unlimited_file recipe still l) (file_answer m recipe still l)
  limited_file =
      rw (← no_limit_file {m = both} (record { stages = omega arith; samples = omega arith }) recipe still l)
      (wider_file {a = m} {b = both} (record { stages = omega arith; samples = omega arith }) recipe still l)
