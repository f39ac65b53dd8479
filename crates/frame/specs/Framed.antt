-- A frame by value, its samples, and what a stage makes of them.
use Rattle.std.specs.Prelude.{ℕ, ◌*◌, ◌≤◌, ◌≡◌, List, length}
use Rattle.lists.specs.Tabulate.{raster}
use Rattle.model.specs.Plane.{Neighbourhood, plane_of, around}
use Rattle.stage_values.specs.Stands.{border_is}
use Rattle.frame.specs.declared.Frame.{Frame}

-- a frame of 1 to 8,192 a side, and its samples
pub record Framed (f : Frame) (samples : List ℕ) : Type 0 where
  pub width : (1 ≤ f.width) × (f.width ≤ 8192)
  pub height : (1 ≤ f.height) × (f.height ≤ 8192)
  pub whole : length samples ≡ f.height * f.width

-- the samples around column u, row v, by offsets, as the model has them
abbrev pub neighbours : Frame → List ℕ → ℕ → ℕ → Neighbourhood
neighbours f samples u v = around (border_is f.border) f.value f.width f.height (plane_of f.width samples) u v

-- the plane that a work makes of each neighbourhood
unfoldable pub worked : Frame → (Neighbourhood → ℕ) → List ℕ → List ℕ
worked f work samples = raster (λ u v. work (neighbours f samples u v)) f.width f.height
