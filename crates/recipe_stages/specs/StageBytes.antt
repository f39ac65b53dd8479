-- A stage's bytes ('Recipe bytes'): the three header bytes, and then the fields of its kind.
use Rattle.std.specs.Prelude.{ℕ, ◌+◌, ◌≤◌, ◌≡◌, true, false, cond, List, [], ◌++◌, drop, eqb}
use Rattle.refusals.specs.Refusal.{Test}
use Rattle.model.specs.Border.{Border, constant, nearest, mirror, wrap}
use Rattle.model.specs.Kernel.{Kernel}
use Rattle.model.specs.Binomial.{binomial}
use Rattle.model.specs.Stage.{Work, weighted, box, rank, outline, Stage, stage}
use Rattle.stage_values.specs.declared.Work as Code
use Rattle.stage_values.specs.declared.Work.TheVariants.{Weighted, Boxed, Ranked, Outlined}
use Rattle.recipe_bytes.specs.Bytes.{at, word}
use Rattle.stage_fields.specs.StageFields.{head_tests, radius_tests, position_tests}
use Rattle.recipe_kernels.specs.Kernels.{kernel_on, weighted_tests, weighted_length, weighted_work}

-- a border by its number: 0 is constant, 1 nearest, 2 mirror and 3 wrap
unfoldable pub border_of : ℕ → Border
border_of b = cond (eqb b 0) constant (cond (eqb b 1) nearest (cond (eqb b 2) mirror wrap))

-- the tests after the header bytes, by kind: of the taps for 1 (ratios) and 2 (reals), of the radii for 3 (binomial), 4 (box) and 5 (rank), and for 5 of the position too; none for 6 (outline)
unfoldable pub work_tests : ℕ → List ℕ → List Test
work_tests kind b =
    cond (eqb kind 1) (weighted_tests false b)
    (cond (eqb kind 2) (weighted_tests true b)
    (cond (eqb kind 5) (radius_tests b ++ position_tests b) (cond (eqb kind 6) [] (radius_tests b))))

-- how many bytes they take
unfoldable pub work_length : ℕ → List ℕ → ℕ
work_length kind b = cond (eqb kind 1) (weighted_length false b) (cond (eqb kind 2) (weighted_length true b) (cond (eqb kind 5) 4 (cond (eqb kind 6) 0 2)))

-- the work
unfoldable pub work_of : ℕ → List ℕ → Work
work_of kind b =
    cond (eqb kind 1) (weighted_work false b)
    (cond (eqb kind 2) (weighted_work true b)
    (cond (eqb kind 3) (weighted (binomial (at b 0)) (binomial (at b 1)))
    (cond (eqb kind 4) (box (at b 0) (at b 1))
    (cond (eqb kind 5) (rank (at b 0) (at b 1) (word b 2)) outline))))

-- a stage: its tests in byte order, its length, its value
unfoldable pub stage_tests : List ℕ → List Test
stage_tests b = head_tests b ++ work_tests (at b 0) (drop 3 b)

unfoldable pub stage_length : List ℕ → ℕ
stage_length b = 3 + work_length (at b 0) (drop 3 b)

unfoldable pub stage_of : List ℕ → Stage
stage_of b = stage (border_of (at b 1)) (at b 2) (work_of (at b 0) (drop 3 b))

-- the kernel of an axis of a stage of kind 1 to 3, after its header bytes
unfoldable pub kernel_for : ℕ → ℕ → List ℕ → Kernel
kernel_for kind axis b = cond (eqb kind 3) (binomial (at b axis)) (kernel_on (eqb kind 2) axis b)

-- the work of a stage as the code holds it
abbrev pub WorkFor : ℕ → List ℕ → Code.Work → Type 0
WorkFor kind b Weighted = (1 ≤ kind) × (kind ≤ 3)
WorkFor kind b (Boxed x) = (kind ≡ 4) × (x.r ≡ at b 0) × (x.s ≡ at b 1)
WorkFor kind b (Ranked x) = (kind ≡ 5) × (x.window.r ≡ at b 0) × (x.window.s ≡ at b 1) × (x.position ≡ word b 2)
WorkFor kind b Outlined = kind ≡ 6
