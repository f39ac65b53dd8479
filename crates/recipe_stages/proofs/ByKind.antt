-- The kinds one by one, and what passing the tests of a stage's kind shows. Assumes nothing.
use Prim.Native.Nat.{ℕ, zero, suc, ◌-◌, ◌≤◌}
use native.Mathlib.Omega.{arith}
use mathlib.Core.Path.{◌≡◌, refl, ap, ◌∙◌}
use mathlib.Core.List.{List, ◌++◌}
use lib.ListN.{length, take, drop}
use Rattle.refusals.specs.Refusal.{verdict}
use Rattle.std.specs.Prelude.{Ok}
use Rattle.refusals.proofs.Passed.{all_pass, all_append, passed_all}
use Rattle.model.specs.Window.{area}
use Rattle.model.specs.Stage.{weighted}
use Rattle.recipe_bytes.specs.Bytes.{at, word}
use Rattle.recipe_kernels.specs.Kernels.{weighted_work}
use Rattle.stage_fields.specs.StageFields.{head_tests, radius_tests, position_tests}
use Rattle.recipe_stages.specs.StageBytes.{work_tests, work_of, stage_tests, kernel_for, WorkFor}
use Rattle.stage_values.specs.declared.Window.{Window}
use Rattle.stage_values.specs.declared.Rank.{Rank}
use Rattle.stage_values.specs.declared.Work as Code
use Rattle.stage_values.specs.declared.Work.TheVariants.{Weighted, Boxed, Ranked, Outlined}
use Rattle.stage_values.specs.Ready.{Ready}
use Rattle.stage_values.specs.declared.Stage.{Stage}
use Rattle.stage_values.specs.Stands.{Does}
use Rattle.lists.proofs.Part.{tail_mid}
use Rattle.stage_fields.proofs.StageFieldLaws.{head_passed, radius_passed, position_passed}

module _ (b : List ℕ) where
  -- kinds 1 to 3
  pub kernels_kind : (kind : ℕ) → 1 ≤ kind → kind ≤ 3 → work_of kind b ≡ weighted (kernel_for kind 0 b) (kernel_for kind 1 b)
  unfolding work_of weighted_work kernel_for
  kernels_kind zero l h = absurd (omega arith)
  kernels_kind (suc zero) l h = refl
  kernels_kind (suc (suc zero)) l h = refl
  kernels_kind (suc (suc (suc zero))) l h = refl
  kernels_kind (suc (suc (suc (suc k)))) l h = absurd (omega arith)

  -- kinds 3 to 5: the radii are right
  pub radii_kind : (kind : ℕ) → 3 ≤ kind → kind ≤ 5 → verdict (work_tests kind b) ≡ Ok tt → (at b 0 ≤ 15) × (at b 1 ≤ 15) × (2 ≤ length b)
  unfolding work_tests
  radii_kind zero l h e = absurd (omega arith)
  radii_kind (suc zero) l h e = absurd (omega arith)
  radii_kind (suc (suc zero)) l h e = absurd (omega arith)
  radii_kind (suc (suc (suc zero))) l h e = radius_passed b (all_pass (radius_tests b) e)
  radii_kind (suc (suc (suc (suc zero)))) l h e = radius_passed b (all_pass (radius_tests b) e)
  radii_kind (suc (suc (suc (suc (suc zero))))) l h e = radius_passed b (all_append (radius_tests b) (position_tests b) (all_pass (radius_tests b ++ position_tests b) e)).0
  radii_kind (suc (suc (suc (suc (suc (suc k)))))) l h e = absurd (omega arith)

  -- the radius of an axis
  pub radius_on : (kind : ℕ) → 3 ≤ kind → kind ≤ 5 → verdict (work_tests kind b) ≡ Ok tt → (axis : ℕ) → axis ≤ 1 → at b axis ≤ 15
  radius_on kind l h e zero k = (radii_kind kind l h e).0
  radius_on kind l h e (suc zero) k = (radii_kind kind l h e).1
  radius_on kind l h e (suc (suc n)) k = absurd (omega (arith, k))

  -- kinds 3 to 5: the window of these radii
  abbrev window : (kind : ℕ) → 3 ≤ kind → kind ≤ 5 → verdict (work_tests kind b) ≡ Ok tt → Window
  window kind l h e = let r = radii_kind kind l h e in record { r = at b 0; s = at b 1; near = (r.0, r.1) }

  -- kind 5: the radii pass by themselves
  pub radii-part : verdict (work_tests 5 b) ≡ Ok tt → verdict (radius_tests b) ≡ Ok tt
  unfolding work_tests
  radii-part e = passed_all (radius_tests b) (all_append (radius_tests b) (position_tests b) (all_pass (radius_tests b ++ position_tests b) e)).0

  -- kind 5: the position is there, and from 1 to the area
  pub position-kind : verdict (work_tests 5 b) ≡ Ok tt → (1 ≤ word b 2) × (word b 2 ≤ area (at b 0) (at b 1)) × (4 ≤ length b)
  unfolding work_tests
  position-kind e = position_passed b (all_append (radius_tests b) (position_tests b) (all_pass (radius_tests b ++ position_tests b) e)).1

  -- the work is that of the bytes: a box's, a rank's or an outline's by itself, and a weighted one's with both axes
  pub held_does : (kind : ℕ) → 4 ≤ kind → (w : Code.Work) → WorkFor kind b w → (s : Stage) → Does w s (work_of kind b)
  unfolding work_of
  held_does kind l Weighted h s = absurd (omega (arith, h))
  held_does kind l (Boxed x) h s = rw (h.0, h.1, h.2)
  held_does kind l (Ranked x) h s = rw (h.0, h.1, h.2, h.3)
  held_does kind l Outlined h s = rw h

  -- kinds 4 to 6: the tests bound the radii and the position, so a stage that passes has the work of its bytes, which does the model's
  pub window_does : (kind : ℕ) → 4 ≤ kind → kind ≤ 6 → verdict (work_tests kind b) ≡ Ok tt → (w : Code.Work) × WorkFor kind b w × ((s : Stage) → Does w s (work_of kind b))
  window_does zero l h e = absurd (omega arith)
  window_does (suc zero) l h e = absurd (omega arith)
  window_does (suc (suc zero)) l h e = absurd (omega arith)
  window_does (suc (suc (suc zero))) l h e = absurd (omega arith)
  window_does (suc (suc (suc (suc zero)))) l h e =
      let x : Window = window 4 (omega arith) (omega arith) e in
      (Boxed x, (refl, refl, refl), held_does 4 (omega arith) (Boxed x) (refl, refl, refl))
  window_does (suc (suc (suc (suc (suc zero))))) l h e =
      let p = position-kind e in
      let x : Rank = record { window = window 5 (omega arith) (omega arith) e; position = word b 2; inside = (p.0, p.1) } in
      (Ranked x, (refl, refl, refl, refl), held_does 5 (omega arith) (Ranked x) (refl, refl, refl, refl))
  window_does (suc (suc (suc (suc (suc (suc zero)))))) l h e = (Outlined, refl, held_does 6 (omega arith) Outlined refl)
  window_does (suc (suc (suc (suc (suc (suc (suc k))))))) l h e = absurd (omega arith)

  pub work_does : (kind : ℕ) (w : Code.Work) → WorkFor kind b w → (s : Stage) → (kind ≤ 3 → Ready (kernel_for kind 0 b) s.across) → (kind ≤ 3 → Ready (kernel_for kind 1 b) s.down) → Does w s (work_of kind b)
  work_does kind Weighted h s across down = (kernel_for kind 0 b, kernel_for kind 1 b, kernels_kind kind h.0 h.1, across h.1, down h.1)
  work_does kind (Boxed x) h s across down = held_does kind (omega (arith, h)) (Boxed x) h s
  work_does kind (Ranked x) h s across down = held_does kind (omega (arith, h)) (Ranked x) h s
  work_does kind Outlined h s across down = held_does kind (omega (arith, h)) Outlined h s

-- ---- a stage

pub head_known : (b : List ℕ) → verdict (head_tests b) ≡ Ok tt → (1 ≤ at b 0) × (at b 0 ≤ 6) × (at b 1 ≤ 3) × (3 ≤ length b)
head_known b e = head_passed b (all_pass (head_tests b) e)

pub stage-parts : (b : List ℕ) → verdict (stage_tests b) ≡ Ok tt → (verdict (head_tests b) ≡ Ok tt) × (verdict (work_tests (at b 0) (drop 3 b)) ≡ Ok tt)
unfolding stage_tests
stage-parts b e =
    let p = all_append (head_tests b) (work_tests (at b 0) (drop 3 b)) (all_pass (stage_tests b) e) in
    (passed_all (head_tests b) p.0, passed_all (work_tests (at b 0) (drop 3 b)) p.1)

-- what a stage that passes has: a kind from 1 to 6, three header bytes, and fields that pass in the part that follows them
pub record Known (b : List ℕ) : Type 0 where
  pub low : 1 ≤ at b 0
  pub high : at b 0 ≤ 6
  pub there : 3 ≤ length b
  pub fields : verdict (work_tests (at b 0) (take (length b - 3) (drop 3 b))) ≡ Ok tt

pub known : (b : List ℕ) → verdict (stage_tests b) ≡ Ok tt → Known b
known b e =
    let p = stage-parts b e in
    let h = head_known b p.0 in
    record { low = h.0; high = h.1; there = h.3; fields = ap (λ l. verdict (work_tests (at b 0) l)) (tail_mid 3 b) ∙ p.1 }
