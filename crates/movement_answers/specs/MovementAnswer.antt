-- What `count_movement` answers to two runs, a and b, and a limit of L levels.
use Rattle.std.specs.Prelude.{ℕ, List, Result, Ok, Err}
use Rattle.refusals.specs.declared.Refusal.{Refusal}
use Rattle.refusals.specs.Refusal.{Test, tested}
use Rattle.model.specs.Tolerance.{tolerance}
use Rattle.answers.specs.declared.Filtered.{Filtered}
use Rattle.answers.specs.declared.Movement.{Movement}
use Rattle.filter_answers.specs.FileAnswer.{lent_tests}
use Rattle.movement.specs.Order.{in_order}
use Rattle.movement.specs.Motion.{Motion}
use Rattle.movement.specs.Motions.{motions, moved_count, still_count, open_count}
use Rattle.movement_answers.specs.Run.{Run, stages, asked, filtered}

-- the tests in their order
unfoldable pub movement_tests : ℕ → Run → Run → List Test
movement_tests L a b = in_order L (asked a) (asked b) (lent_tests (stages a) a.lent (asked a)) (lent_tests (stages b) b.lent (asked b))

-- how many bytes a picture's file has
abbrev pub length_of : Result Filtered Refusal → ℕ
length_of (Err refusal) = 0
length_of (Ok p) = p.len

-- the motion of each sample of all channels between both filtered stills, in the order of their rasters
unfoldable pub motions_between : ℕ → Run → Run → List Motion
motions_between L a b = motions L (tolerance (stages a)) (tolerance (stages b)) (filtered a) (filtered b)

-- how many of some motions are moved, still and open, with both T and the length of each output
abbrev pub counts_of : List Motion → ℕ → ℕ → ℕ → Movement
counts_of ms T T' n = record { moved = moved_count ms; still = still_count ms; «open» = open_count ms; tolerance1 = T; tolerance2 = T'; len = n }

-- what is counted of two runs
abbrev pub counts : List Motion → Run → Run → Movement
counts ms a b = counts_of ms (tolerance (stages a)) (tolerance (stages b)) (length_of (asked a))

-- the answer of `count_movement`: the counts, or the first refusal
unfoldable pub movement_answer : ℕ → Run → Run → Result Movement Refusal
movement_answer L a b = tested Err (movement_tests L a b) (Ok (counts (motions_between L a b) a b))
