-- A recipe stage by stage: what is left to test and to add to T. Assumes nothing.
use Prim.Native.Nat.{ℕ, suc, ◌+◌, ◌-◌, ◌≤◌, ◌<◌}
use native.Mathlib.Omega.{arith}
use mathlib.Core.Path.{◌≡◌}
use mathlib.Core.List.{List}
use lib.ListN.{length, drop, length-drop}
use lib.Seq.{drop-drop}
use borrow.Author.Tests.{eq-eqb, ne_eqb}
use Rattle.refusals.specs.declared.Refusal.{Refusal}
use Rattle.refusals.specs.Refusal.{verdict, tested}
use Rattle.std.specs.Prelude.{Result, Ok, Err}
use Rattle.refusals.proofs.Passed.{passed_part, refused-part}
use Rattle.model.specs.Tolerance.{after_stage, tolerance_from}
use Rattle.answers.specs.declared.Recipe.{Recipe}
use Rattle.recipe_stages.specs.StageBytes.{stage_tests, stage_length, stage_of}
use Rattle.recipe.specs.Recipe.{stages_tests, stages_of}

-- the answer of a recipe b of S stages whose first k end at place a, with T so far
abbrev pub left : List ℕ → ℕ → ℕ → ℕ → ℕ → Result Recipe Refusal
left b S k a T = tested Err (stages_tests (S - k) (drop a b)) (Ok (record { count = S; tolerance = tolerance_from T (stages_of (S - k) (drop a b)) }))

module _ (b : List ℕ) (S k a T : ℕ) where
  pub stage-refused : {n : Refusal} → k < S → verdict (stage_tests (drop a b)) ≡ Err n → left b S k a T ≡ Err n
  unfolding stages_tests
  stage-refused h e = let d : S - k ≡ suc (S - (k + 1)) = omega arith in rw d (refused-part Err _ _ (stage_tests (drop a b)) e)

  pub stage-more : k < S → verdict (stage_tests (drop a b)) ≡ Ok tt → left b S k a T ≡ left b S (k + 1) (a + stage_length (drop a b)) (after_stage T (stage_of (drop a b)))
  unfolding stages_tests stages_of tolerance_from
  stage-more h e = let d : S - k ≡ suc (S - (k + 1)) = omega arith in rw (d, drop-drop (stage_length (drop a b)) a b) (passed_part Err _ _ (stage_tests (drop a b)) e)

  pub stages_long : S ≤ k → a < length b → left b S k a T ≡ Err Refusal.Trailing
  unfolding stages_tests stages_of tolerance_from
  stages_long h l = let d : S - k ≡ 0 = omega arith in rw (d, ne_eqb (length (drop a b)) 0 (λ e. omega (arith, e, length-drop a b)))

  pub stages_done : S ≤ k → length b ≤ a → left b S k a T ≡ Ok (record { count = S; tolerance = T })
  unfolding stages_tests stages_of tolerance_from
  stages_done h l = let d : S - k ≡ 0 = omega arith in rw (d, eq-eqb (length (drop a b)) 0 (omega (arith, length-drop a b)))
