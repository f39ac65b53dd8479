-- The samples that the frame rule supplies, at places held 15 too large.
use Rattle.std.specs.Prelude.{ℕ, List, get_or}
use Rattle.std.proofs.Math.Option.{Option, none, some}
use Rattle.model.specs.Border.{supply}
use Rattle.model.specs.Plane.{plane_of, pick}
use Rattle.stage_values.specs.Place.{offset_of}
use Rattle.stage_values.specs.Stands.{border_is}
use Rattle.frame.specs.declared.Frame.{Frame}

-- the index that is supplied at a place of the frame's columns, or of its rows
abbrev pub column_at : Frame → ℕ → Option ℕ
column_at f x = supply (border_is f.border) f.width (offset_of x)

abbrev pub row_at : Frame → ℕ → Option ℕ
row_at f y = supply (border_is f.border) f.height (offset_of y)

-- the sample of a row at a supplied index
unfoldable pub row_pick : ℕ → List ℕ → Option ℕ → ℕ
row_pick value row none = value
row_pick value row (some u) = get_or row u 0

-- the sample of a row that is supplied at place x
abbrev pub row_sample : Frame → List ℕ → ℕ → ℕ
row_sample f row x = row_pick f.value row (column_at f x)

-- the sample that is supplied at place x, y
unfoldable pub padded : Frame → List ℕ → ℕ → ℕ → ℕ
padded f samples x y = pick f.value (plane_of f.width samples) (column_at f x) (row_at f y)
