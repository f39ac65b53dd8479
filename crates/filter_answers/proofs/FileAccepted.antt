-- A file's answer, and what one that is no refusal has shown. Assumes nothing.
use Prim.Native.Nat.{ℕ, ◌+◌, ◌*◌, ◌-◌, ◌≤◌, ◌<◌}
use native.Mathlib.Nat.{mul-pos}
use native.Mathlib.Omega.{arith}
use mathlib.Core.Path.{◌≡◌, refl, sym, ap, ◌∙◌}
use mathlib.Core.Logic.{⊎_elim}
use mathlib.Core.List.{List, [], ◌∷◌, ◌++◌}
use lib.ListN.{length, drop, length-drop}
use borrow.Author.Tests.{le-leb, lt-leb}
use Rattle.std.specs.Prelude.{Result, Ok, Err}
use Rattle.refusals.specs.declared.Refusal.{Refusal}
use Rattle.refusals.specs.declared.Refusal.TheVariants as Refusal
use Rattle.refusals.specs.Refusal.{tested, verdict}
use Rattle.refusals.proofs.Passed.{AllPass, passed, passed_all, passed_part, refused-part, passed_whole, refused-whole, all_append}
use Rattle.model.specs.Tolerance.{tolerance}
use Rattle.answers.specs.declared.Picture.{Picture}
use Rattle.answers.specs.declared.Filtered.{Filtered}
use Rattle.still_reader.specs.Read.{still_of}
use Rattle.picture_sizes.proofs.PictureSizeLaws.{side-le, size_small, channels_cases, channels_few}
use Rattle.round_trip.proofs.RoundTrip.{picture_valid}
use Rattle.recipe.proofs.Accepted.{recipe_refused}
use Rattle.recipe.specs.Recipe.{recipe_tests, recipe_stages, recipe_of}
use Rattle.room.specs.declared.Lent.{Lent}
use Rattle.room.specs.Room.{room_tests, Sufficient}
use Rattle.room.proofs.Suffices.{suffices}
use Rattle.filter_answers.specs.declared.Limits.{Limits}
use Rattle.filter_answers.specs.Limits.{stage_limit_test, sample_limit_test}
use Rattle.filter_answers.specs.FileAnswer.{file_size, filtered, samples_of, still_answer, picture_answer, Asked, lent_tests, file_answer}

-- what a still that was read keeps to
pub record Shown (p : Picture) (total : ℕ) : Type 0 where
  pub width : (1 ≤ p.width) × (p.width ≤ 8192)
  pub height : (1 ≤ p.height) × (p.height ≤ 8192)
  pub channels : (1 ≤ p.channels) × (p.channels ≤ 3)
  pub plane_small : p.width * p.height ≤ 67108864
  pub raster_small : p.width * p.height * p.channels ≤ 201326592
  pub ends : p.start + p.width * p.height * p.channels ≡ total

pub shown : (still : List ℕ) {p : Picture} → still_of still ≡ Ok p → Shown p (length still)
shown still {p} e =
    let v = picture_valid still e in
    let w = side-le p.width v.width in
    let h = side-le p.height v.height in
    let k : 1 ≤ p.channels = ⊎_elim (λ f. omega (arith, f)) (λ f. omega (arith, f)) (channels_cases p.channels v.channels) in
    let few = channels_few p.channels v.channels in
    let small = size_small p.width p.height p.channels w.1 h.1 few in
    record {
      width = w;
      height = h;
      channels = (k, few);
      plane_small = small.0;
      raster_small = small.1;
      ends = omega (arith, length-drop p.start still, v.raster, mul-pos (mul-pos w.0 h.0) k);
    }

-- ---- whatever is lent

module _ (m : Limits) (T : ℕ) (p : Picture) where
  pub still_limited : m.samples < p.width * p.height → still_answer m T (Ok p) ≡ Err Refusal.SampleLimit
  still_limited h = rw (lt-leb (p.width * p.height) m.samples h)

  pub still_done : p.width * p.height ≤ m.samples → still_answer m T (Ok p) ≡ Ok (filtered p T)
  still_done h = rw (le-leb (p.width * p.height) m.samples h)

module _ (m : Limits) (recipe still : List ℕ) where
  -- a recipe that is refused decides
  pub picture-refused : {r : Refusal} → recipe_of recipe ≡ Err r → picture_answer m recipe still ≡ Err r
  unfolding picture_answer
  picture-refused e = refused-part Err (stage_limit_test m (recipe_stages recipe) ∷ []) _ (recipe_tests recipe) (recipe_refused recipe e)

  -- one that is accepted leaves it to the limit
  module _ (e : verdict (recipe_tests recipe) ≡ Ok tt) where
    pub picture_limited : m.stages < length (recipe_stages recipe) → picture_answer m recipe still ≡ Err Refusal.StageLimit
    unfolding picture_answer
    picture_limited h = passed_part Err (stage_limit_test m (recipe_stages recipe) ∷ []) _ (recipe_tests recipe) e ∙ rw (lt-leb (length (recipe_stages recipe)) m.stages h)

    -- and one within it to the still
    module _ (few : length (recipe_stages recipe) ≤ m.stages) where
      pub picture_left : picture_answer m recipe still ≡ still_answer m (tolerance (recipe_stages recipe)) (still_of still)
      unfolding picture_answer
      picture_left = passed_part Err (stage_limit_test m (recipe_stages recipe) ∷ []) _ (recipe_tests recipe) e ∙ rw (le-leb (length (recipe_stages recipe)) m.stages few)

      pub picture_read : {p : Picture} → still_of still ≡ Ok p → p.width * p.height ≤ m.samples → picture_answer m recipe still ≡ Ok (filtered p (tolerance (recipe_stages recipe)))
      picture_read {p} f h = picture_left ∙ rw f (still_done m (tolerance (recipe_stages recipe)) p h)

  -- what an answer with a picture has shown
  pub record Pictured (f : Filtered) : Type 0 where
    pub accepted : verdict (recipe_tests recipe) ≡ Ok tt
    pub picture : Picture
    pub read : still_of still ≡ Ok picture
    pub is : f ≡ filtered picture (tolerance (recipe_stages recipe))

  pub pictured : {f : Filtered} → picture_answer m recipe still ≡ Ok f → Pictured f
  unfolding picture_answer
  pictured {f} e =
      let p = passed Err (recipe_tests recipe ++ stage_limit_test m (recipe_stages recipe) ∷ []) (still_answer m (tolerance (recipe_stages recipe)) (still_of still)) (Ok f) (λ r g. cc) e in
      by_still (still_of still) refl (passed_all _ (all_append (recipe_tests recipe) (stage_limit_test m (recipe_stages recipe) ∷ []) p.0).0) p.1
    where
      by_still : (s : Result Picture Refusal) → still_of still ≡ s → verdict (recipe_tests recipe) ≡ Ok tt → still_answer m (tolerance (recipe_stages recipe)) s ≡ Ok f → Pictured f
      by_still (Err r) s v g = let never : ⊥ = cc in absurd never
      by_still (Ok p) s v g =
          let q = passed Err (sample_limit_test m p.width p.height ∷ []) (Ok (filtered p (tolerance (recipe_stages recipe)))) (Ok f) (λ r h. cc) g in
          let same : f ≡ filtered p (tolerance (recipe_stages recipe)) = cc (q.1) in
          record { accepted = v; picture = p; read = s; is = same }

  -- so the lent buffers can be tested for it
  pub answer_asked : (a : Result Filtered Refusal) → picture_answer m recipe still ≡ a → Asked recipe a
  answer_asked (Err r) e = tt
  answer_asked (Ok f) e =
      let p = pictured e in
      let s = shown still p.read in
      rw p.is (s.width.1, s.height.1, p.accepted)

-- ---- with what is lent

module _ (m : Limits) (recipe still : List ℕ) (l : Lent) {a : Result Filtered Refusal} (e : picture_answer m recipe still ≡ a) where
  pub file_refused : {r : Refusal} → verdict (lent_tests (recipe_stages recipe) l a) ≡ Err r → file_answer m recipe still l ≡ Err r
  unfolding file_answer
  file_refused f = rw e (refused-whole Err a (lent_tests (recipe_stages recipe) l a) f)

  pub file_done : verdict (lent_tests (recipe_stages recipe) l a) ≡ Ok tt → file_answer m recipe still l ≡ a
  unfolding file_answer
  file_done f = rw e (passed_whole Err a (lent_tests (recipe_stages recipe) l a) f)

-- ---- an accepted file

pub record FileAccepted (recipe still : List ℕ) (l : Lent) (f : Filtered) : Type 0 where
  pub suffices : Sufficient f.width f.height recipe l.works l.rows l.sums
  pub channels : (1 ≤ f.channels) × (f.channels ≤ 3)
  pub raster : f.width * f.height * f.channels ≤ length still
  pub output : f.len ≤ l.out
  pub T-is : tolerance (recipe_stages recipe) ≡ f.tolerance
  pub size_is : file_size f.width f.height f.channels ≡ f.len
  pub start : ℕ
  pub read : still_of still ≡ Ok (record { width = f.width; height = f.height; channels = f.channels; start = start })
  pub samples : samples_of (still_of still) still ≡ drop (length still - f.width * f.height * f.channels) still

module _ (m : Limits) (recipe still : List ℕ) (l : Lent) where
  -- a picture that has its room
  pub picture-accepted : {f : Filtered} → picture_answer m recipe still ≡ Ok f → AllPass (room_tests f.width f.height (recipe_stages recipe) f.len l) → FileAccepted recipe still l f
  picture-accepted {f} e room =
      let p = pictured m recipe still e in
      let s = shown still p.read in
      by_picture p.picture p.read p.is s p.accepted
    where
      starts : (a b k : ℕ) → a + b ≡ k → a ≡ k - b
      starts a b k g = omega (arith, g)

      by_picture : (p : Picture) → still_of still ≡ Ok p → f ≡ filtered p (tolerance (recipe_stages recipe)) → Shown p (length still) → verdict (recipe_tests recipe) ≡ Ok tt → FileAccepted recipe still l f
      by_picture p read is s accepted =
          let size = p.width * p.height * p.channels in
          let r = suffices p.width p.height recipe _ l s.width s.height accepted (rw is at room) in
          rw is (record {
            suffices = r.0;
            channels = s.channels;
            raster = omega (arith, s.ends);
            output = r.1;
            T-is = refl;
            size_is = refl;
            start = p.start;
            read = read;
            samples = rw read (ap (λ (k : ℕ). drop k still) (starts p.start size (length still) s.ends));
          })

  pub file_accepted : {f : Filtered} → file_answer m recipe still l ≡ Ok f → FileAccepted recipe still l f
  unfolding file_answer
  file_accepted {f} e = by_answer (picture_answer m recipe still) refl e
    where
      by_answer : (a : Result Filtered Refusal) → picture_answer m recipe still ≡ a → tested Err (lent_tests (recipe_stages recipe) l a) a ≡ Ok f → FileAccepted recipe still l f
      by_answer (Err r) g h = let never : ⊥ = cc in absurd never
      by_answer (Ok a) g h =
          let p = passed Err (room_tests a.width a.height (recipe_stages recipe) a.len l) (Ok a) (Ok f) (λ r k. cc) h in
          let same : a ≡ f = cc (p.1) in
          rw (sym same) (picture-accepted g p.0)
