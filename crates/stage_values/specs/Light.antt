-- An axis whose taps a weighted stage can run.
use Rattle.std.specs.Prelude.{ℕ, ◌≤◌, ◌<◌, get_or}
use Rattle.stage_values.specs.declared.Axis.{Axis}
use Rattle.stage_values.specs.Size.{held_size}

-- what a stage needs of an axis: few taps, offsets within reach, a gain of about 4 at most
pub record Light (a : Axis) : Type 0 where
  pub few : a.len ≤ 31
  pub near : (i : ℕ) → i < a.len → get_or a.offsets i 0 ≤ 30
  pub size : held_size a.weights a.len ≤ 262175
