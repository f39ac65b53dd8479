-- WIDER LIMITS: of two limits of which one is at most the other, the narrower give the answer of the wider, or 28, or 29. Assumes nothing.
use Prim.Native.Nat.{ℕ, ◌*◌, ◌≤◌}
use native.Mathlib.Omega.{arith}
use mathlib.Core.Path.{◌≡◌, refl, sym, ap, ◌∙◌}
use mathlib.Core.Logic.{◌⊎◌, inl, inr}
use mathlib.Core.Bool.{Bool, true, false}
use mathlib.Core.List.{List}
use lib.Dec.{leb}
use lib.ListN.{length}
use borrow.Author.Tests.{leb-true, leb-false}
use Rattle.std.specs.Prelude.{Result, Ok, Err}
use Rattle.refusals.specs.declared.Refusal.{Refusal}
use Rattle.refusals.specs.declared.Refusal.TheVariants as Refusal
use Rattle.refusals.specs.Refusal.{Verdict, verdict}
use Rattle.refusals.proofs.Passed.{refused-part}
use Rattle.model.specs.Tolerance.{tolerance}
use Rattle.answers.specs.declared.Picture.{Picture}
use Rattle.answers.specs.declared.Filtered.{Filtered}
use Rattle.still_reader.specs.Read.{still_of}
use Rattle.recipe.specs.Recipe.{recipe_tests, recipe_stages}
use Rattle.room.specs.declared.Lent.{Lent}
use Rattle.filter_answers.specs.declared.Limits.{Limits}
use Rattle.filter_answers.specs.Limits.{archive, panel, AtMost}
use Rattle.filter_answers.specs.FileAnswer.{still_answer, picture_answer, file_answer}
use Rattle.filter_answers.proofs.FileAccepted.{still_limited, still_done, picture_limited, picture_left}

-- an answer that is 28, or 29, or the other one
abbrev pub LimitedOr : Result Filtered Refusal → Result Filtered Refusal → Type 0
LimitedOr other answer = (answer ≡ Err Refusal.StageLimit) ⊎ ((answer ≡ Err Refusal.SampleLimit) ⊎ (answer ≡ other))

module _ {a b : Limits} (w : AtMost a b) where
  wider_still : (T : ℕ) (s : Result Picture Refusal) → LimitedOr (still_answer b T s) (still_answer a T s)
  wider_still T (Err r) = inr (inr refl)
  wider_still T (Ok p) = by_samples (leb (p.width * p.height) a.samples) refl
    where
      by_samples : (t : Bool) → leb (p.width * p.height) a.samples ≡ t → LimitedOr (still_answer b T (Ok p)) (still_answer a T (Ok p))
      by_samples false e = inr (inl (still_limited a T p (leb-false (p.width * p.height) a.samples e)))
      by_samples true e =
          let few : p.width * p.height ≤ a.samples = leb-true (p.width * p.height) a.samples e in
          inr (inr (still_done a T p few ∙ sym (still_done b T p (omega (arith, few, w.samples)))))

  module _ (recipe still : List ℕ) where
    pub wider_picture : LimitedOr (picture_answer b recipe still) (picture_answer a recipe still)
    unfolding picture_answer
    wider_picture = by_recipe (verdict (recipe_tests recipe)) refl
      where
        by_stages : verdict (recipe_tests recipe) ≡ Ok tt → (t : Bool) → leb (length (recipe_stages recipe)) a.stages ≡ t → LimitedOr (picture_answer b recipe still) (picture_answer a recipe still)
        by_stages e false f = inl (picture_limited a recipe still e (leb-false (length (recipe_stages recipe)) a.stages f))
        by_stages e true f = let few = leb-true (length (recipe_stages recipe)) a.stages f in rw (picture_left a recipe still e few, picture_left b recipe still e (omega (arith, few, w.stages))) (wider_still (tolerance (recipe_stages recipe)) (still_of still))

        by_recipe : (v : Verdict) → verdict (recipe_tests recipe) ≡ v → LimitedOr (picture_answer b recipe still) (picture_answer a recipe still)
        by_recipe (Err r) e = inr (inr (refused-part Err _ _ (recipe_tests recipe) e ∙ sym (refused-part Err _ _ (recipe_tests recipe) e)))
        by_recipe (Ok u) e = by_stages e (leb (length (recipe_stages recipe)) a.stages) refl

    module _ (l : Lent) where
      pub wider_file : LimitedOr (file_answer b recipe still l) (file_answer a recipe still l)
      unfolding file_answer
      wider_file = by_answer wider_picture
        where
          by_answer : LimitedOr (picture_answer b recipe still) (picture_answer a recipe still) → LimitedOr (file_answer b recipe still l) (file_answer a recipe still l)
          by_answer (inl e) = inl (rw e refl)
          by_answer (inr (inl e)) = inr (inl (rw e refl))
          by_answer (inr (inr e)) = inr (inr (rw e refl))

      -- an input that the narrower accept has the same answer under the wider
      pub accepted_alike : {f : Filtered} → file_answer a recipe still l ≡ Ok f → file_answer b recipe still l ≡ Ok f
      accepted_alike {f} e = by_answer wider_file
        where
          by_answer : LimitedOr (file_answer b recipe still l) (file_answer a recipe still l) → file_answer b recipe still l ≡ Ok f
          by_answer (inl g) = cc
          by_answer (inr (inl g)) = cc
          by_answer (inr (inr g)) = sym g ∙ e

-- the panel's limits are at most the archive's
pub panel_within : AtMost panel archive
panel_within = record { stages = omega arith; samples = omega arith }
