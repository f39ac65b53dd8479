-- WHICH NUMBERS TESTS REFUSE WITH; those of a recipe and of a still are their own, 1 to 18. Assumes nothing.
use Prim.Native.Nat.{ℕ, zero, suc, ◌+◌, ◌-◌, ◌*◌}
use native.Mathlib.Omega.{arith}
use mathlib.Core.Path.{◌≡◌, refl}
use mathlib.Core.Bool.{Bool, true, false, cond, ◌&&◌, and-eq-true_iff}
use mathlib.Core.List.{List, [], ◌∷◌, ◌++◌}
use lib.Dec.{leb, eqb}
use lib.IntN.{ℤ, pos, ◌+ℤ◌}
use lib.ListN.{drop, length}
use Rattle.std.specs.Prelude.{Result, Ok, Err}
use Rattle.refusals.specs.declared.Refusal.{Refusal}
use Rattle.refusals.specs.Refusal.{Test, tested, number}
use Rattle.answers.specs.declared.Picture.{Picture}
use Rattle.recipe_bytes.specs.Bytes.{at, signed8, there}
use Rattle.stage_fields.specs.StageFields.{head_tests, radius_tests, position_tests}
use Rattle.axis_fields.specs.AxisFields.{sizes_length, size_tests, offset_tests, axis_tests, real_tests, weight_tests}
use Rattle.tap_fields.specs.TapFields.{tap_tests}
use Rattle.gain_tests.specs.Gain.{gain_test}
use Rattle.recipe_kernels.specs.Kernels.{gain_tests, weighted_tests}
use Rattle.recipe_stages.specs.StageBytes.{work_tests, stage_tests, stage_length}
use Rattle.recipe.specs.Recipe.{stages_tests, recipe_tests}
use Rattle.header_reader.specs.Header.{Header}
use Rattle.still_reader.specs.Head.{magic_test, header_tests, announced, head_of}
use Rattle.still_reader.specs.Read.{raster_tests, with_raster, still_of}

-- tests whose numbers are all of some sort
abbrev pub numbered : (ℕ → Bool) → List Test → Bool
numbered ok [] = true
numbered ok (t ∷ ts) = ok (number t.1) && numbered ok ts

module _ (ok : ℕ → Bool) where
  pub numbered_append : (xs ys : List Test) → numbered ok xs ≡ true → numbered ok ys ≡ true → numbered ok (xs ++ ys) ≡ true
  numbered_append [] ys p q = q
  numbered_append (t ∷ xs) ys p q =
      let h = (and-eq-true_iff (ok (number t.1)) (numbered ok xs)).0 p in
      (and-eq-true_iff (ok (number t.1)) (numbered ok (xs ++ ys))).1 (h.0, numbered_append xs ys h.1 q)

  pub numbered_cond : (s : Bool) (xs ys : List Test) → numbered ok xs ≡ true → numbered ok ys ≡ true → numbered ok (cond s xs ys) ≡ true
  numbered_cond true xs ys p q = p
  numbered_cond false xs ys p q = q

  -- numbers of one sort that are of another too
  pub numbered_wider : (wide : ℕ → Bool) → ((n : ℕ) → ok n ≡ true → wide n ≡ true) → (ts : List Test) → numbered ok ts ≡ true → numbered wide ts ≡ true
  numbered_wider wide w [] p = refl
  numbered_wider wide w (t ∷ ts) p =
      let h = (and-eq-true_iff (ok (number t.1)) (numbered ok ts)).0 p in
      (and-eq-true_iff (wide (number t.1)) (numbered wide ts)).1 (w (number t.1) h.0, numbered_wider wide w ts h.1)

  -- the refusal of such tests, or of the answer after them
  pub refused_with : {A : Type 0} (ts : List Test) (answer : Result A Refusal) (n : Refusal) → numbered ok ts ≡ true → (answer ≡ Err n → ok (number n) ≡ true)
      → tested Err ts answer ≡ Err n → ok (number n) ≡ true
  refused_with [] answer n p q e = q e
  refused_with ((true, m) ∷ ts) answer n p q e = refused_with ts answer n ((and-eq-true_iff (ok (number m)) (numbered ok ts)).0 p).1 q e
  refused_with ((false, m) ∷ ts) answer n p q e = let d : m ≡ n = cc in rw d at ((and-eq-true_iff (ok (number m)) (numbered ok ts)).0 p).0

-- the numbers of a recipe and of a still
abbrev pub own : ℕ → Bool
own n = leb 1 n && leb n 18

-- ---- the tests of a recipe

offsets_numbered : (least : ℤ) (k : ℕ) (b : List ℕ) → numbered own (offset_tests least k b) ≡ true
unfolding offset_tests there
offsets_numbered least zero b = refl
offsets_numbered least (suc k) b = offsets_numbered (signed8 (at b 0) +ℤ pos 1) k (drop 1 b)

axis_numbered : (k : ℕ) (b : List ℕ) → numbered own (axis_tests k b) ≡ true
unfolding axis_tests
axis_numbered k b = offsets_numbered _ k b

reals_numbered : (k : ℕ) (b : List ℕ) → numbered own (real_tests k b) ≡ true
unfolding real_tests there
reals_numbered zero b = refl
reals_numbered (suc k) b = reals_numbered k (drop 4 b)

sizes_numbered : (real : Bool) (b : List ℕ) → numbered own (size_tests real b) ≡ true
unfolding size_tests there
sizes_numbered true b = refl
sizes_numbered false b = refl

weights_numbered : (real : Bool) (k : ℕ) (b : List ℕ) → numbered own (weight_tests real k b) ≡ true
unfolding weight_tests there
weights_numbered true k b = reals_numbered k b
weights_numbered false k b = refl

taps_numbered : (real : Bool) (b : List ℕ) → numbered own (tap_tests real b) ≡ true
unfolding tap_tests
taps_numbered real b =
    numbered_append own (size_tests real b) _ (sizes_numbered real b)
    (numbered_append own (axis_tests (at b 0) (drop (sizes_length real) b)) _ (axis_numbered _ _)
    (numbered_append own (axis_tests (at b 1) (drop (sizes_length real + at b 0) b)) _ (axis_numbered _ _) (weights_numbered real _ _)))

weighted_numbered : (real : Bool) (b : List ℕ) → numbered own (weighted_tests real b) ≡ true
unfolding weighted_tests gain_tests gain_test
weighted_numbered real b = numbered_append own (tap_tests real b) (gain_tests real b) (taps_numbered real b) refl

work_numbered : (kind : ℕ) (b : List ℕ) → numbered own (work_tests kind b) ≡ true
unfolding work_tests radius_tests position_tests there
work_numbered kind b =
    numbered_cond own (eqb kind 1) (weighted_tests false b) _ (weighted_numbered false b)
    (numbered_cond own (eqb kind 2) (weighted_tests true b) _ (weighted_numbered true b)
    (numbered_cond own (eqb kind 5) (radius_tests b ++ position_tests b) _ refl
    (numbered_cond own (eqb kind 6) [] (radius_tests b) refl refl)))

stage_numbered : (b : List ℕ) → numbered own (stage_tests b) ≡ true
unfolding stage_tests head_tests there
stage_numbered b = numbered_append own (head_tests b) (work_tests (at b 0) (drop 3 b)) refl (work_numbered (at b 0) (drop 3 b))

stages_numbered : (k : ℕ) (b : List ℕ) → numbered own (stages_tests k b) ≡ true
unfolding stages_tests
stages_numbered zero b = refl
stages_numbered (suc k) b = numbered_append own (stage_tests b) (stages_tests k (drop (stage_length b) b)) (stage_numbered b) (stages_numbered k (drop (stage_length b) b))

pub recipe_own : (b : List ℕ) → numbered own (recipe_tests b) ≡ true
unfolding recipe_tests there
recipe_own b = stages_numbered (at b 0) (drop 1 b)

-- ---- a still

-- what is given is no refusal
pub never_refused : {A : Type 0} (ok : ℕ → Bool) {x : A} (n : Refusal) → ◌≡◌ {A = Result A Refusal} (Ok x) (Err n) → ok (number n) ≡ true
never_refused ok n f = let z : ◌≡◌ {A = ℕ} 0 1 = cc in absurd (omega arith)

announced_own : (c : ℕ) (h : Header) (n : Refusal) → announced c h ≡ Err n → own (number n) ≡ true
unfolding announced header_tests
announced_own c h n e = refused_with own (header_tests h) (Ok _) n refl (never_refused own n) e

pub head_own : (bytes : List ℕ) (n : Refusal) → head_of bytes ≡ Err n → own (number n) ≡ true
unfolding head_of magic_test
head_own bytes n e = refused_with own (magic_test bytes ∷ []) (announced _ _) n refl (announced_own _ _ n) e

raster_own : (total : ℕ) (s : Result Picture Refusal) (n : Refusal) → ((k : Refusal) → s ≡ Err k → own (number k) ≡ true) → with_raster total s ≡ Err n → own (number n) ≡ true
raster_own total (Err k) n h e = let d : k ≡ n = cc in rw d at (h k refl)
raster_own total (Ok p) n h e = refused_with own (raster_tests (p.width * p.height * p.channels) (total - p.start)) (Ok p) n refl (never_refused own n) e

pub still_own : (bytes : List ℕ) (n : Refusal) → still_of bytes ≡ Err n → own (number n) ≡ true
unfolding still_of
still_own bytes n e = raster_own (length bytes) (head_of bytes) n (head_own bytes) e
