-- The limits of a caller of `filter_file`: how many stages a recipe may have, and how many samples a plane (W·H).
use Rattle.std.specs.Prelude.{ℕ, ◌*◌, ◌≤◌, List, leb, length}
use Rattle.refusals.specs.declared.Refusal.TheVariants as Refusal
use Rattle.refusals.specs.Refusal.{Test}
use Rattle.model.specs.Stage.{Stage}
use Rattle.filter_answers.specs.declared.Limits.{Limits}

-- the limits of so many stages and so many samples a plane
abbrev pub limits : ℕ → ℕ → Limits
limits stages samples = record { stages = stages; samples = samples }

-- the archive's: eight stages, and 8,192 · 8,192 samples, which no still that is read passes. Every call that takes no limits has these
abbrev pub archive : Limits
archive = limits 8 67108864

-- the bedside panel's: four stages, and 8,192 samples
abbrev pub panel : Limits
panel = limits 4 8192

-- more stages than the limit are refused with 28
abbrev pub stage_limit_test : Limits → List Stage → Test
stage_limit_test m ts = (leb (length ts) m.stages, Refusal.StageLimit)

-- more samples a plane than the limit are refused with 29, however many channels there are
abbrev pub sample_limit_test : Limits → ℕ → ℕ → Test
sample_limit_test m W H = (leb (W * H) m.samples, Refusal.SampleLimit)

-- limits a that are at most b: neither number is larger
pub record AtMost (a b : Limits) : Type 0 where
  pub stages : a.stages ≤ b.stages
  pub samples : a.samples ≤ b.samples
