-- What the calls with a lent output ensure: the call beneath, and its answer told.
use Rattle.std.specs.Prelude.{ℕ, List, length, ℤ}
use Rattle.still_writer.specs.Write.{written_of, Writes}
use Rattle.room.specs.Room.{lent}
use Rattle.filter_answers.specs.PlaneAnswer.{plane_answer}
use Rattle.filter_answers.specs.declared.Limits.{Limits}
use Rattle.filter_answers.specs.FileAnswer.{file_answer}
use Rattle.plane_filter.specs.FiltersPlane as Plane
use Rattle.file_filter.specs.FiltersFile as File
use Rattle.movement_answers.specs.Run.{Run}
use Rattle.movement_answers.specs.MovementAnswer.{movement_answer}
use Rattle.movement_filter.specs.CountsMovement as Movement
use Rattle.told.specs.Numbers.{Tells, written_told, plane_told, file_told, movement_told}

-- `write_still`, for the answer that its definition gives
pub record WritesStill (W H c : ℕ) (raster out out' array array' : List ℕ) (r : ℕ) : Type 0 where
  pub wrote : Writes W H c raster out (written_of W H c (length raster) (length out)) out'
  pub told : Tells (written_told (written_of W H c (length raster) (length out))) array array' r

-- `filter_plane`, for the answer that its definition gives
pub record FiltersPlane (recipe : List ℕ) (W H : ℕ) (plane work work' : List ℕ) (rows rows' : List ℤ) (sums sums' out out' array array' : List ℕ) (r : ℕ) : Type 0 where
  pub filtered : Plane.FiltersPlane recipe W H plane work work' rows rows' sums sums' out out' (plane_answer recipe W H (length plane) (lent (length work) (length rows) (length sums) (length out)))
  pub told : Tells (plane_told (plane_answer recipe W H (length plane) (lent (length work) (length rows) (length sums) (length out)))) array array' r

-- `filter_file` for a caller with limits m, for the answer that its definition gives
pub record FiltersFile (m : Limits) (recipe still work work' : List ℕ) (rows rows' : List ℤ) (sums sums' out out' array array' : List ℕ) (r : ℕ) : Type 0 where
  pub filtered : File.FiltersFile m recipe still work work' rows rows' sums sums' out out' (file_answer m recipe still (lent (length work) (length rows) (length sums) (length out)))
  pub told : Tells (file_told (file_answer m recipe still (lent (length work) (length rows) (length sums) (length out)))) array array' r

-- `count_movement`, for the answer that its definition gives
pub record CountsMovement (L : ℕ) (a b : Run) (work work' : List ℕ) (rows rows' : List ℤ) (sums sums' out1 out1' out2 out2' array array' : List ℕ) (r : ℕ) : Type 0 where
  pub counted : Movement.CountsMovement L a b work work' rows rows' sums sums' out1 out1' out2 out2' (movement_answer L a b)
  pub told : Tells (movement_told (movement_answer L a b)) array array' r
