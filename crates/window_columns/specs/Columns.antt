-- The columns of a window, at places held 15 too large.
use Rattle.std.specs.Prelude.{ℕ, zero, suc, ◌+◌, ◌-◌, List, [], ◌++◌, length, replicate}
use Rattle.std.proofs.Math.Option.{Option, none, some}
use Rattle.frame.specs.declared.Frame.{Frame}
use Rattle.frame.specs.Padded.{column_at}
use Rattle.histograms.specs.Column.{column_of}

-- a supplied column: its samples in the rows inside, and the border value for each row outside; outside the frame the border value in every row
unfoldable pub column_pick : ℕ → List ℕ → List ℕ → ℕ → Option ℕ → List ℕ
column_pick value plane rows down none = replicate down value
column_pick value plane rows down (some c) = column_of plane rows c ++ replicate (down - length rows) value

-- the column at place x
abbrev pub column_in : Frame → List ℕ → List ℕ → ℕ → ℕ → List ℕ
column_in f plane rows down x = column_pick f.value plane rows down (column_at f x)

-- n columns side by side, from place x on
unfoldable pub side_by_side : (ℕ → List ℕ) → ℕ → ℕ → List ℕ
side_by_side column x zero = []
side_by_side column x (suc n) = side_by_side column x n ++ column (x + n)
