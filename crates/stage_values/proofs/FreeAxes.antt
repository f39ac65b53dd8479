-- The axes of a stage without weights are free. Assumes nothing.
use mathlib.Core.Path.{◌≡◌, refl}
use Rattle.std.specs.Prelude.{pos}
use Rattle.lists.specs.Tabulate.{tabulate}
use Rattle.model.specs.Border as Edge
use Rattle.model.specs.Stage as Model
use Rattle.stage_values.specs.declared.Axis.{Axis}
use Rattle.stage_values.specs.declared.Border.TheVariants.{Nearest}
use Rattle.stage_values.specs.declared.Work.TheVariants.{Outlined}
use Rattle.stage_values.specs.declared.Stage.{Stage}
use Rattle.stage_values.specs.Stands.{Stands}

-- an axis may hold what no weighted stage may: 40 taps held as 255, each of weight 1, so too many, out of reach, and of too large a gain
pub far_axis : Axis
far_axis = record { offsets = tabulate (λ _. 255) 31; weights = tabulate (λ _. pos 65536) 31; len = 40; rounded = 40; gain = 0 }

-- and whatever two axes hold, a stage that has them stands for the model's outline
pub outline_stands : (a d : Axis) → (s : Stage) × (s.across ≡ a) × (s.down ≡ d) × Stands s (Model.stage Edge.nearest 0 Model.outline)
unfolding Model.stage
outline_stands a d = (record { border = Nearest; value = 0; work = Outlined; across = a; down = d }, refl, refl, record { border = refl; value = refl; work = refl })
