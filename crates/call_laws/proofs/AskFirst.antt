-- A CALL THAT IS LENT NOTHING ASKS FIRST: it gives 20, and then what `needs` names is enough under the same limits, or it gives the refusal that every call with these
-- files and limits has, which is not 20. So a caller that lends nothing first, and on 20 what is named, sets nothing aside for files that are refused. Assumes nothing.
use Prim.Native.Nat.{ℕ, ◌*◌, ◌<◌}
use native.Mathlib.Nat.{mul-pos}
use native.Mathlib.Omega.{arith}
use mathlib.Core.Path.{◌≡◌, refl, ap, ◌∙◌}
use mathlib.Core.Bool.{Bool, true, not}
use mathlib.Core.Logic.{◌⊎◌, inl, inr}
use mathlib.Core.List.{List, [], ◌∷◌, ◌++◌}
use lib.Dec.{eqb}
use borrow.Author.Tests.{eqb-false, ne_eqb, not-true}
use Rattle.std.specs.Prelude.{Result, Ok, Err}
use Rattle.refusals.specs.declared.Refusal.{Refusal}
use Rattle.refusals.specs.declared.Refusal.TheVariants.{Room}
use Rattle.refusals.specs.Refusal.{number}
use Rattle.refusals.proofs.Passed.{between}
use Rattle.model.specs.Tolerance.{tolerance}
use Rattle.answers.specs.declared.Picture.{Picture}
use Rattle.answers.specs.declared.Filtered.{Filtered}
use Rattle.still_reader.specs.Read.{still_of}
use Rattle.recipe.specs.Recipe.{recipe_tests, recipe_stages}
use Rattle.room.specs.declared.Lent.{Lent}
use Rattle.room.specs.Room.{lent, needs}
use Rattle.filter_answers.specs.declared.Limits.{Limits}
use Rattle.filter_answers.specs.Limits.{stage_limit_test, sample_limit_test}
use Rattle.filter_answers.specs.FileAnswer.{still_answer, picture_answer, file_answer}
use Rattle.filter_answers.proofs.FileAccepted.{shown, pictured}
use Rattle.buffer_needs.specs.NeedsAnswer.{lengths, needs_answer}
use Rattle.room.proofs.Suffices.{short_refused}
use Rattle.buffer_needs.proofs.JustEnough.{needs_named, needs_decide, just_passes}
use Rattle.call_laws.proofs.Numbers.{numbered, numbered_append, numbered_wider, refused_with, never_refused, own, recipe_own, still_own}

-- ---- no refusal but that of the lent buffers is 20

abbrev other : ℕ → Bool
other n = not (eqb n 20)

own_other : (n : ℕ) → own n ≡ true → other n ≡ true
own_other n e = rw (ne_eqb n 20 (λ f. omega (arith, between 1 n 18 e, f))) refl

still_other : (m : Limits) (T : ℕ) (s : Result Picture Refusal) (n : Refusal) → ((k : Refusal) → s ≡ Err k → own (number k) ≡ true) → still_answer m T s ≡ Err n → other (number n) ≡ true
still_other m T (Err k) n h e = let d : k ≡ n = cc in rw d at (own_other (number k) (h k refl))
still_other m T (Ok p) n h e = refused_with other (sample_limit_test m p.width p.height ∷ []) (Ok _) n refl (never_refused other n) e

picture_other : (m : Limits) (recipe still : List ℕ) (n : Refusal) → picture_answer m recipe still ≡ Err n → n ≡ Room → ⊥
unfolding picture_answer
picture_other m recipe still n e f =
    let ts = recipe_tests recipe ++ stage_limit_test m (recipe_stages recipe) ∷ [] in
    let all : numbered other ts ≡ true = numbered_append other (recipe_tests recipe) (stage_limit_test m (recipe_stages recipe) ∷ []) (numbered_wider own other own_other (recipe_tests recipe) (recipe_own recipe)) refl in
    let T = tolerance (recipe_stages recipe) in
    eqb-false (number n) 20 (not-true _ (refused_with other ts (still_answer m T (still_of still)) n all (still_other m T (still_of still) n (still_own still)) e)) (ap number f)

-- ---- what a call that is lent nothing has found out

-- refused in one way, whatever is lent, and not with 20
pub record Refuses (m : Limits) (recipe still : List ℕ) : Type 0 where
  pub refusal : Refusal
  pub not-room : refusal ≡ Room → ⊥
  pub always : (l : Lent) → file_answer m recipe still l ≡ Err refusal

-- 20 where nothing is lent, and a picture where just what is named is, with the T and the length that are
pub record Lacks (m : Limits) (recipe still : List ℕ) : Type 0 where
  pub picture : Filtered
  pub need : Lent
  pub nothing : file_answer m recipe still (lent 0 0 0 0) ≡ Err Room
  pub named : needs_answer recipe still ≡ Ok (lengths need picture.tolerance)
  pub out : picture.len ≡ need.out
  pub runs : file_answer m recipe still need ≡ Ok picture

pub asked_first : (m : Limits) (recipe still : List ℕ) → Refuses m recipe still ⊎ Lacks m recipe still
unfolding file_answer
asked_first m recipe still = by_answer (picture_answer m recipe still) refl
  where
    by_answer : (a : Result Filtered Refusal) → picture_answer m recipe still ≡ a → Refuses m recipe still ⊎ Lacks m recipe still
    by_answer (Err n) e = inl (record { refusal = n; not-room = picture_other m recipe still n e; always = λ l. rw e refl })
    by_answer (Ok f) e =
        let p = pictured m recipe still e in
        let s = shown still p.read in
        let need = needs f.width f.height (recipe_stages recipe) f.len in
        let some : 0 < 2 * (f.width * f.height) = rw p.is (omega (arith, mul-pos s.width.0 s.height.0)) in
        inr (record {
          picture = f;
          need = need;
          nothing = needs_decide m recipe still e (lent 0 0 0 0) ∙ short_refused Err need (lent 0 0 0 0) (Ok f) (inl some);
          named = needs_named m recipe still e;
          out = refl;
          runs = needs_decide m recipe still e need ∙ just_passes need (Ok f);
        })
