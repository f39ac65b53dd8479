-- What `verdict` ensures.
use Rattle.std.specs.Prelude.{ℕ, ◌*◌, ◌≤◌, ◌<◌, ◌≡◌, Bool, true, List, length, drop, Result, Ok, Err, is_err}
use Rattle.refusals.specs.declared.Refusal.{Refusal}
use Rattle.model.specs.Stage.{Stage}
use Rattle.model.specs.Exact.{exact_denominator}
use Rattle.model.specs.Within.{distance}
use Rattle.recipe.specs.Recipe.{recipe_stages}
use Rattle.room.specs.Room.{Kept}
use Rattle.near_rows.specs.Places.{received_at}
use Rattle.verdict_answers.specs.declared.Comparison.{Comparison}
use Rattle.verdict_answers.specs.Plan.{plan_of}
use Rattle.verdict_answers.specs.VerdictAnswer.{exact_at, verdict_answer}

-- no received sample y is more than c levels away from its exact fraction x/N: |N·y - x| ≤ c·N in channel k, row v, column u
abbrev pub NearEverywhere : ℕ → ℕ → ℕ → ℕ → List Stage → List ℕ → List ℕ → Type 0
NearEverywhere c W H channels ts raw received =
    (k v u : ℕ) → k < channels → v < H → u < W
    → distance (exact_denominator ts * received_at W channels received k u v) (exact_at W H channels ts raw k u v) ≤ c * exact_denominator ts

-- THE PROMISE of a verdict on two pictures: yes if and only if so
pub record Promise (said : Bool) (c W H channels : ℕ) (ts : List Stage) (raw received : List ℕ) : Type 0 where
  pub only : said ≡ true → NearEverywhere c W H channels ts raw received
  pub always : NearEverywhere c W H channels ts raw received → said ≡ true

-- what an answer promises
abbrev pub PromiseOf : Result Comparison Refusal → Bool → ℕ → List Stage → List ℕ → List ℕ → Type 0
PromiseOf (Err refusal) said c ts raw received = Unit {0}
PromiseOf (Ok p) said c ts raw received = Promise said c p.width p.height p.channels ts (drop p.raw raw) (drop p.received received)

abbrev pub Promised : Result Bool Refusal → ℕ → List ℕ → List ℕ → List ℕ → ℕ → Type 0
Promised (Err refusal) c recipe raw received works = Unit {0}
Promised (Ok said) c recipe raw received works = PromiseOf (plan_of c recipe raw received works) said c (recipe_stages recipe) raw received

-- what `verdict` ensures for a distance of c levels
pub record GivesVerdict (c : ℕ) (recipe raw received work work' : List ℕ) (answer : Result Bool Refusal) : Type 0 where
  pub answered : answer ≡ verdict_answer c recipe raw received (length work)
  pub promised : Promised answer c recipe raw received (length work)
  pub work-kept : Kept (is_err answer) work work'
