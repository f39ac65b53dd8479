-- The one stage of a recipe: its exact chain, its kernels and its kind of work. Assumes nothing.
use Prim.Native.Nat.{ℕ, ◌+◌, ◌*◌, ◌<◌}
use native.Mathlib.Nat.{mul-one}
use native.Mathlib.Omega.{arith}
use mathlib.Core.Path.{◌≡◌, refl, sym, ap, ◌∙◌}
use mathlib.Core.Bool.{Bool, true, false, ◌||◌, and-eq-true_iff}
use mathlib.Core.Logic.{◌⊎◌, inl, inr, ⊎_elim}
use mathlib.Core.List.{List, [], ◌∷◌}
use lib.ListN.{get_or, drop}
use lib.Seq.{get_or-drop}
use lib.Dec.{eqb}
use borrow.Author.Tests.{eqb-true}
use Rattle.integers.specs.Divide.{clamp}
use Rattle.lists.proofs.Raster.{get_or-raster}
use Rattle.model.specs.Plane.{plane_of, around}
use Rattle.model.specs.Kernel.{Kernel}
use Rattle.model.specs.Stage.{Work, weighted, box, rank, outline, Stage, stage}
use Rattle.model.specs.Exact.{denominator, numerator, exact_plane, exact_from, denominator_from, exact, exact_denominator}
use Rattle.refusals.specs.Refusal.{verdict}
use Rattle.std.specs.Prelude.{Ok}
use Rattle.stage_values.specs.declared.Stage as Code
use Rattle.stage_values.specs.Stands.{Stands}
use Rattle.frame.specs.Framed.{neighbours}
use Rattle.recipe_bytes.specs.Bytes.{at, word}
use Rattle.recipe_kernels.specs.Kernels.{kernel_on, weighted_tests, weighted_work}
use Rattle.recipe_stages.specs.StageBytes.{work_tests, work_of, stage_tests, stage_of}
use Rattle.recipe_stages.proofs.ByKind.{stage-parts}
use Rattle.recipe.specs.Recipe.{stages_of, recipe_stages}
use Rattle.verdict_answers.specs.Plan.{fit_stage}
use Rattle.near_rows.specs.declared.Channel.{Channel}
use Rattle.near_rows.specs.Near.{near, near_clamped}
use Rattle.near_rows.specs.Places.{channel_near}
use Rattle.exact_stages.specs.Numerators.{exact_numerator}

-- ---- the recipe

-- it has one stage
pub one-stage : (b : List ℕ) → fit_stage b ≡ true → at b 0 ≡ 1
unfolding fit_stage
one-stage b e = eqb-true (at b 0) 1 ((and-eq-true_iff (eqb (at b 0) 1) (eqb (at b 1) 1 || (eqb (at b 1) 4 || eqb (at b 1) 5))).0 e).0

pub the_stage : (b : List ℕ) → at b 0 ≡ 1 → recipe_stages b ≡ stage_of (drop 1 b) ∷ []
unfolding recipe_stages stages_of
the_stage b e = rw e refl

-- ---- its exact chain

module _ (W H : ℕ) (t : Stage) (samples : List ℕ) where
  pub one-denominator : exact_denominator (t ∷ []) ≡ denominator 1 t.work
  unfolding exact_denominator denominator_from
  one-denominator = refl

  -- the exact result at column u, row v
  pub one-exact : (u v : ℕ) → u < W → v < H → get_or (exact W H (t ∷ []) samples) (v * W + u) 0 ≡ clamp (255 * denominator 1 t.work) (exact_numerator W H t samples u v)
  unfolding exact exact_from exact_plane
  one-exact u v a b =
      get_or-raster (exact_plane W H 1 t (plane_of W samples)) W H u v 0 a b
      ∙ ap (λ (k : ℕ). clamp (255 * denominator 1 t.work) (numerator t.work (around t.border k W H (plane_of W samples) u v))) (mul-one t.value)

  -- a sample that is near it
  pub near-exact : (c y u v : ℕ) → u < W → v < H
      → near_clamped c (denominator 1 t.work) y (exact_numerator W H t samples u v) ≡ near c (exact_denominator (t ∷ [])) y (get_or (exact W H (t ∷ []) samples) (v * W + u) 0)
  unfolding near_clamped
  near-exact c y u v a b = rw (one-denominator, one-exact u v a b) refl

-- ---- its kind

-- ratios, a box or a rank
pub kinds : (b : List ℕ) → fit_stage b ≡ true → (at (drop 1 b) 0 ≡ 1) ⊎ ((at (drop 1 b) 0 ≡ 4) ⊎ (at (drop 1 b) 0 ≡ 5))
unfolding fit_stage
kinds b e =
    let k = at b 1 in
    rw (get_or-drop 1 b 0 0)
    (either (eqb k 1) (eqb k 4 || eqb k 5) (λ h. inl (eqb-true k 1 h)) (λ h. inr (either (eqb k 4) (eqb k 5) (λ g. inl (eqb-true k 4 g)) (λ g. inr (eqb-true k 5 g)) h))
    ((and-eq-true_iff (eqb (at b 0) 1) (eqb k 1 || (eqb k 4 || eqb k 5))).0 e).1)
  where
    either : (a b : Bool) {A : Type 0} → (a ≡ true → A) → (b ≡ true → A) → (a || b) ≡ true → A
    either true b f g h = f refl
    either false b f g h = g h

module _ (part : List ℕ) where
  unfolding_work : (k : ℕ) → at part 0 ≡ k → (stage_of part).work ≡ work_of k (drop 3 part)
  unfolding stage_of stage
  unfolding_work k e = rw e refl

  box-kind : at part 0 ≡ 4 → (stage_of part).work ≡ box (at (drop 3 part) 0) (at (drop 3 part) 1)
  unfolding work_of
  box-kind e = unfolding_work 4 e

  rank-kind : at part 0 ≡ 5 → (stage_of part).work ≡ rank (at (drop 3 part) 0) (at (drop 3 part) 1) (word (drop 3 part) 2)
  unfolding work_of
  rank-kind e = unfolding_work 5 e

  -- the kernels of ratios
  pub ratio_work : at part 0 ≡ 1 → (stage_of part).work ≡ weighted (kernel_on false 0 (drop 3 part)) (kernel_on false 1 (drop 3 part))
  unfolding work_of weighted_work
  ratio_work e = unfolding_work 1 e

  -- and their tests
  pub ratio_tests : at part 0 ≡ 1 → verdict (stage_tests part) ≡ Ok tt → verdict (weighted_tests false (drop 3 part)) ≡ Ok tt
  unfolding work_tests
  ratio_tests e t = rw e at (stage-parts part t).1

  module _ (fit : (at part 0 ≡ 1) ⊎ ((at part 0 ≡ 4) ⊎ (at part 0 ≡ 5))) where
    -- weights are ratios
    pub weights_ratios : {K L : Kernel} → (stage_of part).work ≡ weighted K L → at part 0 ≡ 1
    weights_ratios {K} {L} e = ⊎_elim (λ h. h) (λ h. ⊎_elim (λ k. absurd (no_box (sym (box-kind k) ∙ e))) (λ k. absurd (no_rank (sym (rank-kind k) ∙ e))) h) fit
      where
        no_box : {r s : ℕ} → box r s ≡ weighted K L → ⊥
        no_box h = let z : ◌≡◌ {A = ℕ} 0 1 = cc in absurd (omega arith)

        no_rank : {r s p : ℕ} → rank r s p ≡ weighted K L → ⊥
        no_rank h = let z : ◌≡◌ {A = ℕ} 0 1 = cc in absurd (omega arith)

    -- and no outline is there
    pub no_outline : (stage_of part).work ≡ outline → ⊥
    no_outline e = ⊎_elim (λ h. no_weights (sym (ratio_work h) ∙ e)) (λ h. ⊎_elim (λ k. no_box (sym (box-kind k) ∙ e)) (λ k. no_rank (sym (rank-kind k) ∙ e)) h) fit
      where
        no_weights : {K L : Kernel} → weighted K L ≡ outline → ⊥
        no_weights h = let z : ◌≡◌ {A = ℕ} 0 1 = cc in absurd (omega arith)

        no_box : {r s : ℕ} → box r s ≡ outline → ⊥
        no_box h = let z : ◌≡◌ {A = ℕ} 0 1 = cc in absurd (omega arith)

        no_rank : {r s p : ℕ} → rank r s p ≡ outline → ⊥
        no_rank h = let z : ◌≡◌ {A = ℕ} 0 1 = cc in absurd (omega arith)

-- ---- its frame

-- what was found of a stage as the code holds it is what the model's stage gives
pub stage-near : (c w h N : ℕ) (ch : Channel) (received samples : List ℕ) (s : Code.Stage) (t : Stage) (work : Work)
    → Stands s t → t.work ≡ work → N ≡ denominator 1 work
    → channel_near c N w h ch received (λ u v. numerator work (neighbours (record { width = w; height = h; border = s.border; value = s.value }) samples u v))
    ≡ channel_near c (denominator 1 t.work) w h ch received (exact_numerator w h t samples)
stage-near c w h N ch received samples s t work stands e n = rw (n, ← e, stands.border, stands.value) refl
