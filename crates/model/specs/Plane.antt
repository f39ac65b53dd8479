-- Planes, and the samples around one place of a plane, by the rule of 'Outside the frame'.
use Rattle.std.specs.Prelude.{ℕ, ◌+◌, ◌*◌, List, get_or, ℤ, pos, ◌+ℤ◌}
use Rattle.std.proofs.Math.Option.{Option, none, some}
use Rattle.model.specs.Border.{Border, supply}

-- a plane: the sample at column u, row v, both from 0
abbrev pub Plane : Type 0
Plane = ℕ → ℕ → ℕ

-- the plane of width W whose samples are listed row by row
unfoldable pub plane_of : ℕ → List ℕ → Plane
plane_of W samples u v = get_or samples (v * W + u) 0

-- a neighbourhood: the samples around one place, by the offsets across and down
abbrev pub Neighbourhood : Type 0
Neighbourhood = ℤ → ℤ → ℕ

-- the sample at the two supplied indices, or the border value where one of them, or each, is none
unfoldable pub pick : ℕ → Plane → Option ℕ → Option ℕ → ℕ
pick value f none v = value
pick value f (some u) none = value
pick value f (some u) (some v) = f u v

-- the neighbourhood of column u, row v: an offset is added to the column or the row, and not subtracted
unfoldable pub around : Border → ℕ → ℕ → ℕ → Plane → ℕ → ℕ → Neighbourhood
around border value W H f u v i j = pick value f (supply border W (pos u +ℤ i)) (supply border H (pos v +ℤ j))
