-- What two runs come to, test by test. Assumes nothing.
use Prim.Native.Nat.{ℕ, ◌*◌, ◌≤◌}
use mathlib.Core.Path.{◌≡◌, sym, ◌∙◌}
use mathlib.Core.Bool.{Bool, true, false}
use mathlib.Core.List.{List, ◌∷◌, ◌++◌}
use lib.Dec.{leb}
use Rattle.std.specs.Prelude.{Result, Ok, Err}
use Rattle.refusals.specs.declared.Refusal.{Refusal}
use Rattle.refusals.specs.declared.Refusal.TheVariants.{SizesDiffer, MovementLimit}
use Rattle.refusals.specs.Refusal.{Test, Verdict, verdict}
use Rattle.refusals.proofs.Passed.{passed_whole, refused-whole, refused_first, passed_first}
use Rattle.model.specs.Tolerance.{tolerance}
use Rattle.answers.specs.declared.Filtered.{Filtered}
use Rattle.filter_answers.specs.Limits.{archive}
use Rattle.filter_answers.specs.FileAnswer.{file_size, lent_tests}
use Rattle.filter_answers.proofs.FileAccepted.{shown, pictured}
use Rattle.movement.specs.Order.{same_size, in_order}
use Rattle.movement_answers.specs.Run.{Run, stages, asked}
use Rattle.movement_answers.specs.MovementAnswer.{movement_tests}
use Rattle.movement_answers.specs.Plan.{plan_of}

-- the tests behind each run's own, of what the runs come to
abbrev pub pair_tests : Run → Run → Result Filtered Refusal → Result Filtered Refusal → List Test
pair_tests a b first second = (same_size first second, SizesDiffer) ∷ lent_tests (stages a) a.lent first ++ lent_tests (stages b) b.lent second

-- as the code finds them, for pictures of one size
module _ {same : Bool} (xs ys : List Test) (e : same ≡ true) where
  pub lent_first : {r : Refusal} → Err r ≡ verdict xs → Err r ≡ verdict ((same, SizesDiffer) ∷ xs ++ ys)
  unfolding verdict
  lent_first p = rw e (refused_first xs ys (sym p))

  pub lent_second : {v : Verdict} → Ok tt ≡ verdict xs → v ≡ verdict ys → v ≡ verdict ((same, SizesDiffer) ∷ xs ++ ys)
  unfolding verdict
  lent_second p q = rw e (q ∙ passed_first xs ys (sym p))

-- what a run that comes to a picture has shown: its T, the length of its file, and that it is not large
module _ (r : Run) {p : Filtered} (e : asked r ≡ Ok p) where
  pub tolerance_is : tolerance (stages r) ≡ p.tolerance
  tolerance_is = rw (pictured archive r.recipe r.still e).is

  pub length_is : file_size p.width p.height p.channels ≡ p.len
  length_is = rw (pictured archive r.recipe r.still e).is

  pub plane_small : p.width * p.height ≤ 67108864
  plane_small = let q = pictured archive r.recipe r.still e in rw q.is (shown r.still q.read).plane_small

  pub raster_small : p.width * p.height * p.channels ≤ 201326592
  raster_small = let q = pictured archive r.recipe r.still e in rw q.is (shown r.still q.read).raster_small

module _ (L : ℕ) (a b : Run) where
  pub plan_limit : leb L 255 ≡ false → plan_of L a b ≡ Err MovementLimit
  unfolding plan_of movement_tests in_order
  plan_limit l = rw l

  module _ (l : leb L 255 ≡ true) where
    pub plan_first : {r : Refusal} → asked a ≡ Err r → plan_of L a b ≡ Err r
    unfolding plan_of movement_tests in_order
    plan_first e = rw (l, e)

    module _ {p : Filtered} (e : asked a ≡ Ok p) where
      pub plan_second : {r : Refusal} → asked b ≡ Err r → plan_of L a b ≡ Err r
      unfolding plan_of movement_tests in_order
      plan_second f = rw (l, e, f)

      module _ {q : Filtered} (f : asked b ≡ Ok q) where
        pub plan_refused : {r : Refusal} → verdict (pair_tests a b (Ok p) (Ok q)) ≡ Err r → plan_of L a b ≡ Err r
        unfolding plan_of movement_tests in_order
        plan_refused g = rw (l, e, f) (refused-whole Err _ (pair_tests a b (Ok p) (Ok q)) g)

        pub plan_done : verdict (pair_tests a b (Ok p) (Ok q)) ≡ Ok tt
            → plan_of L a b ≡ Ok (record { samples = p.width * p.height * p.channels; len = p.len; tolerance1 = p.tolerance; tolerance2 = q.tolerance })
        unfolding plan_of movement_tests in_order
        plan_done g = rw (l, e, f) (passed_whole Err _ (pair_tests a b (Ok p) (Ok q)) g ∙ rw (tolerance_is a e, tolerance_is b f))
