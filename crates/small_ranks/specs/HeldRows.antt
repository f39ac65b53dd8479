-- Rows of the frame in one buffer, one behind another, each with 15 samples more on each side.
use Rattle.std.specs.Prelude.{ℕ, ◌+◌, ◌*◌, ◌≤◌, ◌<◌, ◌≡◌, List, get_or}
use Rattle.frame.specs.declared.Frame.{Frame}
use Rattle.frame.specs.Padded.{padded}

-- slots k to n - 1 of a buffer hold rows, slot j the one at place y + j, all places held 15 too large
pub record HeldRows (f : Frame) (samples : List ℕ) (y k n : ℕ) (rows : List ℕ) : Type 0 where
  pub held : (x j : ℕ) → x < f.width + 30 → k ≤ j → j < n → get_or rows (j * (f.width + 30) + x) 0 ≡ padded f samples x (y + j)
