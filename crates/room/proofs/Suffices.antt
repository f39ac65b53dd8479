-- Tests of the room by its needs: what passes them suffices, and less of any buffer is refused. Assumes nothing.
use Prim.Native.Nat.{ℕ, ◌≤◌, ◌<◌}
use mathlib.Core.Path.{◌≡◌, refl}
use mathlib.Core.Bool.{Bool, true, false, cond}
use mathlib.Core.Logic.{◌⊎◌, inl, inr}
use mathlib.Core.List.{List}
use lib.Dec.{leb}
use borrow.Author.Tests.{leb-true, le-leb, lt-leb}
use Rattle.std.specs.Prelude.{Ok}
use Rattle.refusals.specs.declared.Refusal.{Refusal}
use Rattle.refusals.specs.Refusal.{tested, verdict}
use Rattle.refusals.proofs.Passed.{AllPass}
use Rattle.model.specs.Stage.{Stage}
use Rattle.recipe.specs.Recipe.{recipe_tests, recipe_stages}
use Rattle.room.specs.declared.Lent.{Lent}
use Rattle.room.specs.Room.{needs, enough_tests, room_tests, Sufficient}

-- a length that is below its need, whatever the others are
abbrev pub Short : Lent → Lent → Type 0
Short need l = (l.works < need.works) ⊎ ((l.rows < need.rows) ⊎ ((l.sums < need.sums) ⊎ (l.out < need.out)))

module _ {A : Type 0} (refuse : Refusal → A) (need l : Lent) (a : A) where
  -- lengths that are all enough leave the answer
  pub enough_passes : need.works ≤ l.works → need.rows ≤ l.rows → need.sums ≤ l.sums → need.out ≤ l.out → tested refuse (enough_tests need l) a ≡ a
  enough_passes w r s o = rw (le-leb _ _ w, le-leb _ _ r, le-leb _ _ s, le-leb _ _ o)

  pub short_refused : Short need l → tested refuse (enough_tests need l) a ≡ refuse Refusal.Room
  short_refused = by_buffer
    where
      -- whatever a test before it finds
      behind : (t : Bool) {x : A} → x ≡ refuse Refusal.Room → cond t x (refuse Refusal.Room) ≡ refuse Refusal.Room
      behind true e = e
      behind false e = refl

      by_buffer : Short need l → tested refuse (enough_tests need l) a ≡ refuse Refusal.Room
      by_buffer (inl h) = rw (lt-leb need.works l.works h)
      by_buffer (inr (inl h)) = behind (leb need.works l.works) (rw (lt-leb need.rows l.rows h))
      by_buffer (inr (inr (inl h))) = behind (leb need.works l.works) (behind (leb need.rows l.rows) (rw (lt-leb need.sums l.sums h)))
      by_buffer (inr (inr (inr h))) =
          behind (leb need.works l.works) (behind (leb need.rows l.rows) (behind (leb need.sums l.sums) (rw (lt-leb need.out l.out h))))

-- the room's tests, by lengths that are its needs
pub by_needs : (W H : ℕ) (ts : List Stage) (size : ℕ) (l need : Lent) → need ≡ needs W H ts size → verdict (enough_tests need l) ≡ verdict (room_tests W H ts size l)
unfolding room_tests
by_needs W H ts size l need e = rw e refl

-- where the tests of a recipe's needs pass, what is lent suffices
module _ (W H : ℕ) (recipe : List ℕ) (size : ℕ) (l : Lent) where
  pub suffices : (1 ≤ W) × (W ≤ 8192) → (1 ≤ H) × (H ≤ 8192) → verdict (recipe_tests recipe) ≡ Ok tt → AllPass (room_tests W H (recipe_stages recipe) size l)
      → Sufficient W H recipe l.works l.rows l.sums × (size ≤ l.out)
  unfolding room_tests
  suffices w h e p = (
    record {
      width = w;
      height = h;
      accepted = e;
      enough-work = leb-true _ _ p.0;
      enough-rows = leb-true _ _ p.1.0;
      enough-sums = leb-true _ _ p.1.1.0;
    },
    leb-true _ _ p.1.1.1.0,
  )
