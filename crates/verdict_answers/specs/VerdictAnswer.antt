-- What `verdict` answers.
use Rattle.std.specs.Prelude.{ℕ, ◌+◌, ◌*◌, Bool, List, get_or, drop, Result, Ok, Err}
use Rattle.refusals.specs.declared.Refusal.{Refusal}
use Rattle.model.specs.Stage.{Stage}
use Rattle.model.specs.Exact.{exact, exact_denominator}
use Rattle.channels.specs.Channel.{channel}
use Rattle.recipe.specs.Recipe.{recipe_stages}
use Rattle.near_rows.specs.Near.{near}
use Rattle.near_rows.specs.Everywhere.{everywhere}
use Rattle.near_rows.specs.Places.{received_at}
use Rattle.verdict_answers.specs.declared.Comparison.{Comparison}
use Rattle.verdict_answers.specs.Plan.{plan_of}

-- the exact result at column u, row v of the raw still's channel k: the clamped numerator x of the model's exact chain, over its N
abbrev pub exact_at : ℕ → ℕ → ℕ → List Stage → List ℕ → ℕ → ℕ → ℕ → ℕ
exact_at W H channels ts raster k u v = get_or (exact W H ts (channel channels (W * H) raster k)) (v * W + u) 0

-- whether |N·y - x| ≤ c·N for the received sample y and the exact x/N of each channel k, row v and column u
unfoldable pub all_near : ℕ → ℕ → ℕ → ℕ → List Stage → List ℕ → List ℕ → Bool
all_near c W H channels ts raw received =
    everywhere channels (λ k. everywhere H (λ v. everywhere W (λ u. near c (exact_denominator ts) (received_at W channels received k u v) (exact_at W H channels ts raw k u v))))

-- the verdict on two pictures whose rasters begin at bytes p.raw and p.received
abbrev pub answer_to : Result Comparison Refusal → ℕ → List Stage → List ℕ → List ℕ → Result Bool Refusal
answer_to (Err refusal) c ts raw received = Err refusal
answer_to (Ok p) c ts raw received = Ok (all_near c p.width p.height p.channels ts (drop p.raw raw) (drop p.received received))

-- the answer of `verdict`, with so many work bytes lent: the verdict, or the first refusal
unfoldable pub verdict_answer : ℕ → List ℕ → List ℕ → List ℕ → ℕ → Result Bool Refusal
verdict_answer c recipe raw received works = answer_to (plan_of c recipe raw received works) c (recipe_stages recipe) raw received
