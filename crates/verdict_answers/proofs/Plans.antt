-- What a verdict comes to, test by test. Assumes nothing.
use Prim.Native.Nat.{ℕ}
use mathlib.Core.Path.{◌≡◌, refl, ◌∙◌}
use mathlib.Core.Bool.{true, false}
use mathlib.Core.List.{List, [], ◌∷◌}
use lib.Dec.{leb}
use Rattle.std.specs.Prelude.{Ok, Err}
use Rattle.refusals.specs.declared.Refusal.{Refusal}
use Rattle.refusals.specs.declared.Refusal.TheVariants.{DistanceLimit, VerdictStage}
use Rattle.refusals.specs.Refusal.{verdict}
use Rattle.refusals.proofs.Passed.{passed_part, refused-part}
use Rattle.still_reader.specs.Read.{still_of}
use Rattle.recipe.specs.Recipe.{recipe_tests}
use Rattle.verdict_answers.specs.Plan.{fit_stage, request_tests, stills_plan, plan_of}

module _ (c : ℕ) (recipe raw received : List ℕ) (works : ℕ) where
  -- a distance over 255
  pub plan_distance : leb c 255 ≡ false → plan_of c recipe raw received works ≡ Err DistanceLimit
  unfolding plan_of request_tests
  plan_distance e = rw e

  module _ (near : leb c 255 ≡ true) where
    -- a recipe that is refused
    pub plan_recipe : {r : Refusal} → verdict (recipe_tests recipe) ≡ Err r → plan_of c recipe raw received works ≡ Err r
    unfolding plan_of request_tests
    plan_recipe e = rw near (refused-part Err ((fit_stage recipe, VerdictStage) ∷ []) (stills_plan works (still_of raw) (still_of received)) (recipe_tests recipe) e)

    module _ (accepted : verdict (recipe_tests recipe) ≡ Ok tt) where
      -- one that is accepted, but of another form
      pub plan_other : fit_stage recipe ≡ false → plan_of c recipe raw received works ≡ Err VerdictStage
      unfolding plan_of request_tests
      plan_other e = rw near (passed_part Err ((fit_stage recipe, VerdictStage) ∷ []) (stills_plan works (still_of raw) (still_of received)) (recipe_tests recipe) accepted ∙ rw e refl)

      -- else the stills decide
      pub plan_stills : fit_stage recipe ≡ true → plan_of c recipe raw received works ≡ stills_plan works (still_of raw) (still_of received)
      unfolding plan_of request_tests
      plan_stills e = rw near (passed_part Err ((fit_stage recipe, VerdictStage) ∷ []) (stills_plan works (still_of raw) (still_of received)) (recipe_tests recipe) accepted ∙ rw e refl)
