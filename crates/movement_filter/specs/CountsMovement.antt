-- What `count_movement` answers, writes and promises.
use Rattle.std.specs.Prelude.{ℕ, ◌+◌, ◌*◌, ◌<◌, ◌≡◌, List, length, get_or, ℤ, Result, Ok, Err, is_err}
use Rattle.refusals.specs.declared.Refusal.{Refusal}
use Rattle.model.specs.Exact.{exact, exact_denominator}
use Rattle.header_writer.specs.Heading.{header_bytes}
use Rattle.channels.specs.Channel.{channel}
use Rattle.answers.specs.declared.Filtered.{Filtered}
use Rattle.answers.specs.declared.Movement.{Movement}
use Rattle.room.specs.Room.{Kept}
use Rattle.file_filter.specs.FiltersFile.{file_output}
use Rattle.movement.specs.Motion.{Motion, unsettled}
use Rattle.movement.specs.Motions.{motions, Counted}
use Rattle.movement.specs.Truth.{TrueOf}
use Rattle.movement_answers.specs.Run.{Run, stages, samples, asked, file_of}
use Rattle.movement_answers.specs.MovementAnswer.{motions_between, movement_answer}
use Rattle.movement_runs.specs.RunsBoth.{raster_in}

-- the output of a run after an answer: as before a refusal, else as the file call leaves it
abbrev pub output_after : Result Movement Refusal → Run → List ℕ → List ℕ
output_after (Err refusal) r out = out
output_after (Ok m) r out = file_output (file_of r) (stages r) (samples r) out

-- the exact sample of channel k at column u and row v, as a numerator
abbrev pub exact_sample : Run → ℕ → ℕ → ℕ → ℕ → ℕ → ℕ → ℕ
exact_sample r W H c k u v = get_or (exact W H (stages r) (channel c (W * H) (samples r) k)) (v * W + u) 0

-- THE PROMISE, for two pictures of W by H and c channels in both outputs, whose motions are ms: the counts m are theirs
pub record Promise (ms : List Motion) (L : ℕ) (a b : Run) (m : Movement) (W H c : ℕ) (out1 out2 : List ℕ) : Type 0 where
  -- these are the motions between the samples that were written, all of them, place by place
  pub written : ms ≡ motions L m.tolerance1 m.tolerance2 (raster_in (length (header_bytes W H c)) (W * H * c) out1) (raster_in (length (header_bytes W H c)) (W * H * c) out2)
  -- each is counted, as what it is, and none twice
  pub counted : Counted ms m.moved m.still m.«open»
  pub add-up : m.moved + m.still + m.«open» ≡ W * H * c
  -- of a sample that is moved the exact difference exceeds L, of one that is still it does not: channel k, column u, row v
  pub exactly : (k u v : ℕ) → k < c → u < W → v < H
      → TrueOf (get_or ms ((v * W + u) * c + k) unsettled) L (exact_denominator (stages a)) (exact_sample a W H c k u v) (exact_denominator (stages b)) (exact_sample b W H c k u v)

-- the same of the pictures that both runs come to
abbrev pub PromiseOf : Result Filtered Refusal → List Motion → ℕ → Run → Run → Movement → List ℕ → List ℕ → Type 0
PromiseOf (Err refusal) ms L a b m out1 out2 = Unit {0}
PromiseOf (Ok p) ms L a b m out1 out2 = Promise ms L a b m p.width p.height p.channels out1 out2

-- what an answer promises of both outputs
abbrev pub Promised : Result Movement Refusal → ℕ → Run → Run → List ℕ → List ℕ → Type 0
Promised (Err refusal) L a b out1 out2 = Unit {0}
Promised (Ok m) L a b out1 out2 = PromiseOf (asked a) (motions_between L a b) L a b m out1 out2

-- what `count_movement` ensures, for the runs a and b
pub record CountsMovement (L : ℕ) (a b : Run) (work work' : List ℕ) (rows rows' : List ℤ) (sums sums' out1 out1' out2 out2' : List ℕ) (answer : Result Movement Refusal) : Type 0 where
  pub answered : answer ≡ movement_answer L a b
  pub output1 : out1' ≡ output_after answer a out1
  pub output2 : out2' ≡ output_after answer b out2
  pub promised : Promised answer L a b out1' out2'
  pub work-kept : Kept (is_err answer) work work'
  pub rows-kept : Kept (is_err answer) rows rows'
  pub sums_kept : Kept (is_err answer) sums sums'
