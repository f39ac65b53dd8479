-- A stage as the code holds it, and the model's stage that it stands for.
use Rattle.std.specs.Prelude.{◌≡◌}
use Rattle.model.specs.Border as Edge
use Rattle.model.specs.Kernel.{Kernel}
use Rattle.model.specs.Stage as Model
use Rattle.stage_values.specs.declared.Border.{Border}
use Rattle.stage_values.specs.declared.Border.TheVariants.{Constant, Nearest, Mirror, Wrap}
use Rattle.stage_values.specs.declared.Work.{Work}
use Rattle.stage_values.specs.declared.Work.TheVariants.{Weighted, Boxed, Ranked, Outlined}
use Rattle.stage_values.specs.declared.Stage.{Stage}
use Rattle.stage_values.specs.Ready.{Ready}

-- a border by its name
abbrev pub border_is : Border → Edge.Border
border_is Constant = Edge.constant
border_is Nearest = Edge.nearest
border_is Mirror = Edge.mirror
border_is Wrap = Edge.wrap

-- what a stage's work is: the limits of radii and positions are those of the types
abbrev pub Does : Work → Stage → Model.Work → Type 0
Does Weighted s w = (K : Kernel) × (L : Kernel) × (w ≡ Model.weighted K L) × Ready K s.across × Ready L s.down
Does (Boxed x) s w = w ≡ Model.box x.r x.s
Does (Ranked x) s w = w ≡ Model.rank x.window.r x.window.s x.position
Does Outlined s w = w ≡ Model.outline

-- border, border value and work are those of the model's stage
pub record Stands (s : Stage) (t : Model.Stage) : Type 0 where
  pub border : border_is s.border ≡ t.border
  pub value : s.value ≡ t.value
  pub work : Does s.work s t.work
