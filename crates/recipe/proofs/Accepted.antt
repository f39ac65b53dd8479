-- What bytes that pass a recipe's tests have, part by part, and that a recipe that is read gives sound stages, S of them, and their tolerance. Assumes nothing.
use Prim.Native.Nat.{ℕ, zero, suc, ◌≤◌}
use native.Mathlib.Omega.{arith}
use mathlib.Core.Path.{◌≡◌, refl, sym, ap, ◌∙◌}
use mathlib.Core.List.{List}
use lib.ListN.{length, drop}
use Rattle.refusals.specs.Refusal.{verdict}
use Rattle.std.specs.Prelude.{Ok, Err}
use Rattle.refusals.specs.declared.Refusal.{Refusal}
use Rattle.refusals.proofs.Passed.{AllPass, passed, all_append, refused_tests, all_pass, passed_all, between}
use Rattle.model.specs.Sound.{Sound, Bytes}
use Rattle.model.specs.Tolerance.{tolerance}
use Rattle.answers.specs.declared.Recipe.{Recipe}
use Rattle.recipe_bytes.specs.Bytes.{at}
use Rattle.recipe_bytes.proofs.ByteLaws.{bytes_drop}
use Rattle.recipe_stages.proofs.StageLaws.{stage_passed}
use Rattle.recipe_stages.specs.StageBytes.{stage_tests, stage_length}
use Rattle.recipe.specs.Recipe.{stages_tests, stages_of, recipe_tests, recipe_stages, recipe_of}

-- ---- the stages one after the other

pub stages_passed : (k : ℕ) (b : List ℕ) → Bytes b → AllPass (stages_tests k b) → Sound (stages_of k b)
unfolding stages_tests stages_of
stages_passed zero b h p = tt
stages_passed (suc k) b h p =
    let q = all_append (stage_tests b) (stages_tests k (drop (stage_length b) b)) p in
    let s = stage_passed b h q.0 in
    (s.0, s.1, stages_passed k (drop (stage_length b) b) (bytes_drop (stage_length b) b h) q.1)

pub stages-count : (k : ℕ) (b : List ℕ) → length (stages_of k b) ≡ k
unfolding stages_of
stages-count zero b = refl
stages-count (suc k) b = ap suc (stages-count k (drop (stage_length b) b))

-- ---- a recipe

-- what is known of a recipe that is read with S stages and the tolerance T
pub record Read (b : List ℕ) (S T : ℕ) : Type 0 where
  pub tests : AllPass (recipe_tests b)
  pub count : S ≡ at b 0
  pub some : 1 ≤ S
  pub few : S ≤ 8
  pub stages : length (recipe_stages b) ≡ S
  pub worth : T ≡ tolerance (recipe_stages b)

pub accepted : (b : List ℕ) {r : Recipe} → recipe_of b ≡ Ok r → Read b r.count r.tolerance
unfolding recipe_of recipe_tests recipe_stages
accepted b {r} e =
    let worth : Recipe = record { count = at b 0; tolerance = tolerance (recipe_stages b) } in
    let p = passed Err (recipe_tests b) (Ok worth) (Ok r) (λ n f. cc) e in
    let same : worth ≡ r = cc in
    let s = ap (λ x. x.count) same in
    let n = between 1 (at b 0) 8 p.0.1.0 in
    record { tests = p.0; count = sym s; some = omega arith; few = omega arith; stages = stages-count (at b 0) (drop 1 b) ∙ s; worth = sym (ap (λ x. x.tolerance) same) }

-- a recipe that was read passed its tests, and its T is the model's
pub recipe_read : (b : List ℕ) {r : Recipe} → recipe_of b ≡ Ok r → (verdict (recipe_tests b) ≡ Ok tt) × (tolerance (recipe_stages b) ≡ r.tolerance)
recipe_read b e = let r = accepted b e in (passed_all _ r.tests, sym r.worth)

-- one that passes them has sound stages
pub recipe_sound : (b : List ℕ) → Bytes b → verdict (recipe_tests b) ≡ Ok tt → Sound (recipe_stages b)
unfolding recipe_tests recipe_stages
recipe_sound b h e = stages_passed (at b 0) (drop 1 b) (bytes_drop 1 b h) (all_pass (recipe_tests b) e).1.1

-- one that was refused was so by its tests
pub recipe_refused : (b : List ℕ) {n : Refusal} → recipe_of b ≡ Err n → verdict (recipe_tests b) ≡ Err n
unfolding recipe_of
recipe_refused b e = refused_tests Err (λ m n f. cc) (recipe_tests b) (Ok (record { count = at b 0; tolerance = tolerance (recipe_stages b) })) (λ k f. cc) e
