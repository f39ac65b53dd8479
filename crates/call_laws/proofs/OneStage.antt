-- T OF ONE STAGE OF WEIGHTS, as every call that answers T gives it: at most 98,060, and at most 49,094 if neither gain passes 1. Assumes nothing.
use Prim.Native.Nat.{ℕ, zero, suc, ◌*◌, ◌≤◌}
use native.Mathlib.Omega.{arith}
use mathlib.Core.Path.{◌≡◌, sym, ap, ◌∙◌}
use mathlib.Core.Bool.{Bool, true, false}
use mathlib.Core.List.{List, [], ◌∷◌}
use lib.ListN.{drop}
use lib.Seq.{get_or-drop, drop-drop}
use lib.Pow.{pow_pos}
use Rattle.refusals.specs.Refusal.{verdict}
use Rattle.std.specs.Prelude.{Result, Ok, Err}
use Rattle.refusals.specs.declared.Refusal.{Refusal}
use Rattle.refusals.proofs.Passed.{AllPass, all_append, all_pass, passed_all, passed_whole}
use Rattle.lists.proofs.Tabulate.{length-tabulate}
use Rattle.model.specs.Kernel.{kernel}
use Rattle.model.specs.Binomial.{binomial}
use Rattle.model.specs.Stage.{stage, weighted}
use Rattle.model.specs.Tolerance.{tolerance}
use Rattle.model_laws.proofs.Bounds.{Limited, tolerance_gain_1, tolerance_gain_4}
use Rattle.binomials.proofs.Taps.{binomial-magnitude}
use Rattle.answers.specs.declared.Recipe.{Recipe}
use Rattle.answers.specs.declared.Filtered.{Filtered}
use Rattle.recipe_bytes.specs.Bytes.{at}
use Rattle.axis_fields.specs.AxisFields.{size_tests}
use Rattle.axis_fields.proofs.AxisPassed.{sizes_passed}
use Rattle.tap_fields.specs.TapFields.{tap_tests}
use Rattle.taps.specs.TapBytes.{kernel_at}
use Rattle.recipe_kernels.specs.Kernels.{kernel_on, gain_tests, weighted_tests}
use Rattle.recipe_kernels.proofs.GainLaws.{gain_within}
use Rattle.recipe_stages.specs.StageBytes.{work_tests, stage_tests, stage_of, kernel_for, border_of}
use Rattle.recipe_stages.proofs.ByKind.{kernels_kind, radius_on, stage-parts}
use Rattle.recipe.specs.Recipe.{stages_tests, stages_of, recipe_tests, recipe_stages, recipe_of}
use Rattle.recipe.proofs.Accepted.{accepted}
use Rattle.room.specs.declared.Lent.{Lent}
use Rattle.filter_answers.specs.PlaneAnswer.{plane_answer}
use Rattle.filter_answers.specs.declared.Limits.{Limits}
use Rattle.filter_answers.specs.FileAnswer.{file_answer}
use Rattle.filter_answers.proofs.PlaneAccepted.{plane_accepted}
use Rattle.filter_answers.proofs.FileAccepted.{file_accepted}
use Rattle.call_laws.specs.FirstStage.{first_kind, first_kernel, GainOne}

-- ---- kernels that pass keep to the limits

-- of kinds 1 and 2
read_sizes : (real : Bool) (b : List ℕ) → verdict (weighted_tests real b) ≡ Ok tt → AllPass (size_tests real b)
unfolding weighted_tests tap_tests
read_sizes real b e = (all_append (size_tests real b) _ (all_append (tap_tests real b) (gain_tests real b) (all_pass (weighted_tests real b) e)).0).0

read_limited : (real : Bool) (b : List ℕ) → verdict (weighted_tests real b) ≡ Ok tt → (axis : ℕ) → axis ≤ 1 → Limited 4 (kernel_on real axis b)
unfolding kernel_on kernel_at kernel
read_limited real b e zero l = let s = sizes_passed real b (read_sizes real b e) in record { divisor = s.4; taps = rw length-tabulate s.1; gain = gain_within real b e 0 l }
read_limited real b e (suc zero) l = let s = sizes_passed real b (read_sizes real b e) in record { divisor = s.5; taps = rw length-tabulate s.3; gain = gain_within real b e 1 l }
read_limited real b e (suc (suc k)) l = absurd (omega (arith, l))

-- of kind 3
binomial_limited : (r : ℕ) → r ≤ 15 → Limited 4 (binomial r)
unfolding binomial kernel
binomial_limited r h = record { divisor = pow_pos (2 * r); taps = rw length-tabulate (omega (arith, h)); gain = omega (arith, binomial-magnitude r) }

kernel_limited : (kind : ℕ) (b : List ℕ) → 1 ≤ kind → kind ≤ 3 → verdict (work_tests kind b) ≡ Ok tt → (axis : ℕ) → axis ≤ 1 → Limited 4 (kernel_for kind axis b)
unfolding kernel_for work_tests
kernel_limited zero b h k e axis l = absurd (omega (arith, h))
kernel_limited (suc zero) b h k e axis l = read_limited false b e axis l
kernel_limited (suc (suc zero)) b h k e axis l = read_limited true b e axis l
kernel_limited (suc (suc (suc zero))) b h k e axis l = binomial_limited (at b axis) (radius_on b 3 (omega arith) (omega arith) e axis l)
kernel_limited (suc (suc (suc (suc n)))) b h k e axis l = absurd (omega (arith, k))

-- ---- a recipe of one stage of kind 1 to 3

-- what `read_recipe` gives of S stages with T
abbrev pub stages_with : ℕ → ℕ → Result Recipe Refusal
stages_with S T = Ok (record { count = S; tolerance = T })

module _ (b : List ℕ) {T : ℕ} (e : recipe_of b ≡ stages_with 1 T) (low : 1 ≤ first_kind b) (high : first_kind b ≤ 3) where
  first_tests : verdict (stage_tests (drop 1 b)) ≡ Ok tt
  unfolding recipe_tests stages_tests
  first_tests = let r = accepted b e in passed_all (stage_tests (drop 1 b)) (all_append (stage_tests (drop 1 b)) _ (rw (sym r.count) at r.tests.1.1)).0

  -- its fields pass, where the recipe has them
  first_fields : verdict (work_tests (at b 1) (drop 4 b)) ≡ Ok tt
  first_fields = rw (← get_or-drop 1 b 0 0, ← drop-drop 3 1 b) (stage-parts (drop 1 b) first_tests).1

  first_limited : (axis : ℕ) → axis ≤ 1 → Limited 4 (first_kernel b axis)
  first_limited axis l = kernel_limited (at b 1) (drop 4 b) low high first_fields axis l

  -- the model's stages
  first_stage : recipe_stages b ≡ stage (border_of (at b 2)) (at b 3) (weighted (first_kernel b 0) (first_kernel b 1)) ∷ []
  unfolding recipe_stages stages_of stage_of
  first_stage =
      rw (sym (accepted b e).count, get_or-drop 1 b 1 0, get_or-drop 1 b 2 0, get_or-drop 1 b 0 0, drop-drop 3 1 b)
      (ap (λ w. stage (border_of (at b 2)) (at b 3) w ∷ []) (kernels_kind (drop 4 b) (at b 1) low high))

  -- T is at most 98,060
  pub one_stage_bound : T ≤ 98060
  one_stage_bound = rw ((accepted b e).worth, first_stage) (tolerance_gain_4 _ _ _ _ (first_limited 0 (omega arith)) (first_limited 1 (omega arith)))

  gain-one : (axis : ℕ) → axis ≤ 1 → GainOne (first_kernel b axis) → Limited 1 (first_kernel b axis)
  gain-one axis l g = let k = first_limited axis l in record { divisor = k.divisor; taps = k.taps; gain = omega (arith, g) }

  -- and at most 49,094 if neither gain passes 1
  pub one_stage_gain_1 : GainOne (first_kernel b 0) → GainOne (first_kernel b 1) → T ≤ 49094
  one_stage_gain_1 g h = rw ((accepted b e).worth, first_stage) (tolerance_gain_1 _ _ _ _ (gain-one 0 (omega arith) g) (gain-one 1 (omega arith) h))

-- ---- every T that is answered is the recipe's own, as `read_recipe` answers it

passed_reads : (b : List ℕ) → verdict (recipe_tests b) ≡ Ok tt → recipe_of b ≡ stages_with (at b 0) (tolerance (recipe_stages b))
unfolding recipe_of
passed_reads b e = passed_whole Err _ (recipe_tests b) e

pub plane_tolerance : (recipe : List ℕ) (W H n : ℕ) (l : Lent) {T : ℕ} → plane_answer recipe W H n l ≡ Ok T → recipe_of recipe ≡ stages_with 1 T
plane_tolerance recipe W H n l {T} e =
    let a = plane_accepted recipe W H n l e in
    passed_reads recipe a.suffices.accepted ∙ rw (a.one, a.T-is)

pub file_tolerance : (m : Limits) (recipe still : List ℕ) (l : Lent) {f : Filtered} → file_answer m recipe still l ≡ Ok f → recipe_of recipe ≡ stages_with (at recipe 0) f.tolerance
file_tolerance m recipe still l e =
    let a = file_accepted m recipe still l e in
    passed_reads recipe a.suffices.accepted ∙ ap (stages_with (at recipe 0)) a.T-is
