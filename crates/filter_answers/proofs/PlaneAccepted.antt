-- What an answer that is no refusal has shown. Assumes nothing.
use Prim.Native.Nat.{ℕ, ◌*◌, ◌≤◌}
use native.Mathlib.Nat.{le_antisymm}
use native.Mathlib.Omega.{arith}
use mathlib.Core.Path.{◌≡◌, ◌∙◌}
use mathlib.Core.List.{List, ◌++◌}
use lib.ListN.{get_or}
use borrow.Author.Tests.{leb-true, eqb-true}
use Rattle.std.specs.Prelude.{Ok, Err}
use Rattle.refusals.specs.declared.Refusal.{Refusal}
use Rattle.refusals.specs.Refusal.{tested, verdict}
use Rattle.refusals.proofs.Passed.{passed, all_append, passed_all, passed_part, refused-part, passed_whole, refused-whole}
use Rattle.model.specs.Tolerance.{tolerance}
use Rattle.picture_sizes.proofs.PictureSizeLaws.{sides_le}
use Rattle.recipe.specs.Recipe.{recipe_tests, recipe_stages, recipe_of}
use Rattle.recipe.proofs.Accepted.{recipe_refused}
use Rattle.room.specs.declared.Lent.{Lent}
use Rattle.room.specs.Room.{Sufficient}
use Rattle.room.proofs.Suffices.{suffices}
use Rattle.filter_answers.specs.PlaneAnswer.{plane_tests, plane_answer}

module _ (recipe : List ℕ) (W H n : ℕ) (l : Lent) where
  -- a recipe that is refused decides
  pub plane_refused : {k : Refusal} → recipe_of recipe ≡ Err k → plane_answer recipe W H n l ≡ Err k
  unfolding plane_answer
  plane_refused e = refused-part Err (plane_tests recipe W H n l) _ (recipe_tests recipe) (recipe_refused recipe e)

  -- one that is accepted leaves it to the other tests
  module _ (e : verdict (recipe_tests recipe) ≡ Ok tt) where
    plane_left : plane_answer recipe W H n l ≡ tested Err (plane_tests recipe W H n l) (Ok (tolerance (recipe_stages recipe)))
    unfolding plane_answer
    plane_left = passed_part Err (plane_tests recipe W H n l) _ (recipe_tests recipe) e

    pub plane_refused_late : {k : Refusal} → verdict (plane_tests recipe W H n l) ≡ Err k → plane_answer recipe W H n l ≡ Err k
    plane_refused_late f = plane_left ∙ refused-whole Err _ (plane_tests recipe W H n l) f

    pub plane_done : verdict (plane_tests recipe W H n l) ≡ Ok tt → plane_answer recipe W H n l ≡ Ok (tolerance (recipe_stages recipe))
    plane_done f = plane_left ∙ passed_whole Err _ (plane_tests recipe W H n l) f

pub record PlaneAccepted (recipe : List ℕ) (W H n : ℕ) (l : Lent) (T : ℕ) : Type 0 where
  pub suffices : Sufficient W H recipe l.works l.rows l.sums
  pub one : get_or recipe 0 0 ≡ 1
  pub whole : n ≡ W * H
  pub output : W * H ≤ l.out
  pub T-is : tolerance (recipe_stages recipe) ≡ T

pub plane_accepted : (recipe : List ℕ) (W H n : ℕ) (l : Lent) {T : ℕ} → plane_answer recipe W H n l ≡ Ok T → PlaneAccepted recipe W H n l T
unfolding plane_answer plane_tests
plane_accepted recipe W H n l {T} e =
    let p = passed Err (recipe_tests recipe ++ plane_tests recipe W H n l) _ _ (λ r f. cc) e in
    let q = all_append (recipe_tests recipe) (plane_tests recipe W H n l) p.0 in
    let s = sides_le W H q.1.1.0 in
    let r = suffices W H recipe (W * H) l s.0 s.1 (passed_all _ q.0) q.1.1.1.1.1 in
    record {
      suffices = r.0;
      one = eqb-true _ _ q.1.0;
      whole = le_antisymm (leb-true _ _ q.1.1.1.1.0) (leb-true _ _ q.1.1.1.0);
      output = r.1;
      T-is = let t : tolerance (recipe_stages recipe) ≡ T = cc in t;
    }
