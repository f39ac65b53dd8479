-- What two runs come to before the first sample is filtered: the refusal of the answer, or what there is to be filtered and counted.
use Rattle.std.specs.Prelude.{ℕ, ◌*◌, Result, Ok, Err}
use Rattle.refusals.specs.declared.Refusal.{Refusal}
use Rattle.refusals.specs.Refusal.{tested}
use Rattle.model.specs.Tolerance.{tolerance}
use Rattle.answers.specs.declared.Filtered.{Filtered}
use Rattle.movement_answers.specs.declared.Pair.{Pair}
use Rattle.movement_answers.specs.Run.{Run, stages, asked}
use Rattle.movement_answers.specs.MovementAnswer.{movement_tests, length_of}

-- how many samples a picture has
abbrev pub sample_count : Result Filtered Refusal → ℕ
sample_count (Err refusal) = 0
sample_count (Ok p) = p.width * p.height * p.channels

-- what there is to be filtered and counted, where no test fails
abbrev pub pair_of : Run → Run → Pair
pair_of a b = record { samples = sample_count (asked a); len = length_of (asked a); tolerance1 = tolerance (stages a); tolerance2 = tolerance (stages b) }

unfoldable pub plan_of : ℕ → Run → Run → Result Pair Refusal
plan_of L a b = tested Err (movement_tests L a b) (Ok (pair_of a b))
