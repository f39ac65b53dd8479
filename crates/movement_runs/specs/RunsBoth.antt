-- What two runs of the file call over common work buffers leave in their outputs, and what is counted there.
use Rattle.std.specs.Prelude.{ℕ, ◌-◌, ◌≤◌, ◌≡◌, List, length, take, drop, ℤ}
use Rattle.answers.specs.declared.Movement.{Movement}
use Rattle.room.specs.Room.{lent}
use Rattle.file_filter.specs.FiltersFile.{file_output, FileWithin}
use Rattle.movement.specs.Motions.{motions}
use Rattle.movement_answers.specs.declared.Pair.{Pair}
use Rattle.movement_answers.specs.Run.{Run, run, stages, samples, file_of}
use Rattle.movement_answers.specs.MovementAnswer.{counts_of}

-- a run over these lent buffers
abbrev pub run_on : List ℕ → List ℕ → List ℕ → List ℤ → List ℕ → List ℕ → Run
run_on recipe still work rows sums out = run recipe still (lent (length work) (length rows) (length sums) (length out))

-- an output after a run: as the file call leaves it, and each written sample within T of the exact one
pub record Leaves (r : Run) (out out' : List ℕ) : Type 0 where
  pub output : out' ≡ file_output (file_of r) (stages r) (samples r) out
  pub within : FileWithin (file_of r) (stages r) (samples r) out'

-- the n samples of a file from a place on
abbrev pub raster_in : ℕ → ℕ → List ℕ → List ℕ
raster_in start n file = take n (drop start file)

-- a pair of files that can be counted in outputs of these lengths: the limit and both tolerances are at most 255 levels
pub record Countable (L : ℕ) (p : Pair) (room1 room2 : ℕ) : Type 0 where
  pub limit : L ≤ 255
  pub first : p.tolerance1 ≤ 16711680
  pub second : p.tolerance2 ≤ 16711680
  pub few : p.samples ≤ 201326592
  pub ends : p.samples ≤ p.len
  pub fits1 : p.len ≤ room1
  pub fits2 : p.len ≤ room2

-- what is counted in two outputs, whose rasters end the files
abbrev pub counts_in : ℕ → Pair → List ℕ → List ℕ → Movement
counts_in L p out1 out2 =
    counts_of (motions L p.tolerance1 p.tolerance2 (raster_in (p.len - p.samples) p.samples out1) (raster_in (p.len - p.samples) p.samples out2)) p.tolerance1 p.tolerance2 p.len

-- what both runs ensure
pub record RunsBoth (L : ℕ) (a b : Run) (p : Pair) (out1 out1' out2 out2' : List ℕ) (answer : Movement) : Type 0 where
  pub first : Leaves a out1 out1'
  pub second : Leaves b out2 out2'
  pub counted : answer ≡ counts_in L p out1' out2'
