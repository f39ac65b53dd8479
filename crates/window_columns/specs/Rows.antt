-- The rows of a window, by where they start in a plane. Those that the frame rule puts outside are left out: they have the border value alone.
use Rattle.std.specs.Prelude.{ℕ, zero, suc, ◌+◌, ◌*◌, ◌≤◌, ◌<◌, List, [], ◌∷◌, ◌++◌, length, get_or}
use Rattle.std.proofs.Math.Option.{Option, none, some}
use Rattle.frame.specs.declared.Frame.{Frame}
use Rattle.frame.specs.Padded.{row_at}

-- the start of a supplied row, if it is inside
unfoldable pub start_of : ℕ → Option ℕ → List ℕ
start_of w none = []
start_of w (some v) = v * w ∷ []

-- the starts of those inside, of so many rows from place y on
unfoldable pub row_starts : Frame → ℕ → ℕ → List ℕ
row_starts f y zero = []
row_starts f y (suc j) = row_starts f y j ++ start_of f.width (row_at f (y + j))

-- at most so many rows, each wholly in a plane
pub record Rows (f : Frame) (plane : List ℕ) (down : ℕ) (rows : List ℕ) : Type 0 where
  pub few : length rows ≤ down
  pub whole : (k : ℕ) → k < length rows → get_or rows k 0 + f.width ≤ length plane
