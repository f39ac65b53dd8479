-- A stage that passes its tests is sound. Assumes nothing.
use Prim.Native.Nat.{ℕ, zero, suc, ◌*◌, ◌≤◌}
use native.Mathlib.Omega.{arith}
use mathlib.Core.Bool.{Bool, true, false}
use mathlib.Core.List.{List}
use lib.ListN.{drop}
use lib.Pow.{pow_pos}
use Rattle.refusals.proofs.Passed.{AllPass, all_append}
use Rattle.model.specs.Kernel.{kernel}
use Rattle.model.specs.Binomial.{binomial}
use Rattle.model.specs.Stage.{stage}
use Rattle.model.specs.Sound.{SoundWork, Bytes}
use Rattle.recipe_bytes.specs.Bytes.{at}
use Rattle.stage_fields.specs.StageFields.{head_tests, radius_tests, position_tests}
use Rattle.stage_fields.proofs.StageFieldLaws.{head_passed, position_passed}
use Rattle.axis_fields.specs.AxisFields.{size_tests}
use Rattle.axis_fields.proofs.AxisPassed.{sizes_passed}
use Rattle.tap_fields.specs.TapFields.{tap_tests}
use Rattle.taps.specs.TapBytes.{kernel_at}
use Rattle.recipe_kernels.specs.Kernels.{kernel_on, gain_tests, weighted_tests, weighted_work}
use Rattle.recipe_stages.specs.StageBytes.{work_tests, work_of, stage_tests, stage_of}

pub weighted_passed : (real : Bool) (b : List ℕ) → AllPass (weighted_tests real b) → SoundWork (weighted_work real b)
unfolding tap_tests weighted_tests weighted_work kernel_on kernel_at kernel
weighted_passed real b p =
    let taps = (all_append (tap_tests real b) (gain_tests real b) p).0 in
    let s = sizes_passed real b (all_append (size_tests real b) _ taps).0 in
    (s.4, s.5)

pub work_passed : (kind : ℕ) (b : List ℕ) → 1 ≤ kind → kind ≤ 6 → AllPass (work_tests kind b) → SoundWork (work_of kind b)
unfolding work_tests work_of binomial kernel
work_passed zero b h k p = absurd (omega arith)
work_passed (suc zero) b h k p = weighted_passed false b p
work_passed (suc (suc zero)) b h k p = weighted_passed true b p
work_passed (suc (suc (suc zero))) b h k p = (pow_pos (2 * at b 0), pow_pos (2 * at b 1))
work_passed (suc (suc (suc (suc zero)))) b h k p = tt
work_passed (suc (suc (suc (suc (suc zero))))) b h k p = let w = position_passed b (all_append (radius_tests b) (position_tests b) p).1 in (w.0, w.1)
work_passed (suc (suc (suc (suc (suc (suc zero)))))) b h k p = tt
work_passed (suc (suc (suc (suc (suc (suc (suc n))))))) b h k p = absurd (omega arith)

pub stage_passed : (b : List ℕ) → Bytes b → AllPass (stage_tests b) → SoundWork (stage_of b).work × ((stage_of b).value ≤ 255)
unfolding stage_tests stage_of stage
stage_passed b h p =
    let q = all_append (head_tests b) (work_tests (at b 0) (drop 3 b)) p in
    let k = head_passed b q.0 in
    (work_passed (at b 0) (drop 3 b) k.0 k.1 q.1, h 2)
