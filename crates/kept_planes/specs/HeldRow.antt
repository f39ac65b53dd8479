-- Rows of the plane that a stage keeps behind the one that it writes, held in buffers.
use Rattle.std.specs.Prelude.{ℕ, ◌+◌, ◌*◌, ◌≤◌, ◌≡◌, List, length, take, drop}
use Rattle.lists.specs.Tabulate.{tabulate}
use Rattle.frame.specs.declared.Frame.{Frame}
use Rattle.frame.specs.Padded.{padded}

-- the kept plane: the second of two in a buffer
abbrev pub kept : Frame → List ℕ → List ℕ
kept f work = take (f.height * f.width) (drop (f.height * f.width) work)

-- a buffer whose front is row y of the frame with 15 samples more on each side, all at places held 15 too large
pub record Held (f : Frame) (samples : List ℕ) (y : ℕ) (row : List ℕ) : Type 0 where
  pub long : f.width + 30 ≤ length row
  pub front : take (f.width + 30) row ≡ tabulate (λ x. padded f samples x y) (f.width + 30)
