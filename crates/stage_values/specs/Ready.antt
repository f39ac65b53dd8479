-- An axis that is ready for use by a stage.
use Rattle.std.specs.Prelude.{ℕ, ◌^◌, ◌≤◌, ◌<◌, ◌≡◌, map, length, get_or, take}
use Rattle.lists.specs.Tabulate.{tabulate}
use Rattle.model.specs.Kernel.{Kernel}
use Rattle.model.specs.Apportion.{rounded_taps, apportion}
use Rattle.model.specs.Tolerance.{scaled_gain}
use Rattle.stage_values.specs.declared.Axis.{Axis}
use Rattle.stage_values.specs.Place.{offset_of}

-- offsets, weights in 65,536ths, how many of them are rounded, and gain are those of the model's kernel, and within the limits that a recipe keeps to
pub record Ready (K : Kernel) (axis : Axis) : Type 0 where
  pub count : axis.len ≡ length K.taps
  pub places : tabulate (λ i. offset_of (get_or axis.offsets i 0)) axis.len ≡ map (λ t. t.offset) K.taps
  pub shares : take axis.len axis.weights ≡ map (λ t. t.weight) (apportion K)
  pub rounded : axis.rounded ≡ rounded_taps K
  pub scaled-gain : axis.gain ≡ scaled_gain K
  pub few : axis.len ≤ 31
  pub near : (i : ℕ) → i < axis.len → get_or axis.offsets i 0 ≤ 30
  pub limited : axis.gain ≤ 2 ^ 18
  pub divided : 0 < K.divisor
