-- What the verdict ensures to C and Rust: the call beneath, and its answer told.
use Rattle.std.specs.Prelude.{ℕ, List, length}
use Rattle.verdict_answers.specs.VerdictAnswer.{verdict_answer}
use Rattle.verdicts.specs.GivesVerdict as Verdict
use Rattle.told.specs.Numbers.{Tells, judged_told}

-- `verdict`, for the answer that its definition gives
pub record GivesVerdict (c : ℕ) (recipe raw received work work' array array' : List ℕ) (r : ℕ) : Type 0 where
  pub given : Verdict.GivesVerdict c recipe raw received work work' (verdict_answer c recipe raw received (length work))
  pub told : Tells (judged_told (verdict_answer c recipe raw received (length work))) array array' r
