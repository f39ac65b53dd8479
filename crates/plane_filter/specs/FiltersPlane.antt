-- What `filter_plane` answers and writes.
use Rattle.std.specs.Prelude.{ℕ, ◌+◌, ◌*◌, ◌<◌, ◌≡◌, List, ◌++◌, length, get_or, drop, ℤ, Result, Ok, Err, is_err}
use Rattle.model.specs.Stage.{Stage, written}
use Rattle.model.specs.Exact.{exact, exact_denominator}
use Rattle.model.specs.Within.{Within}
use Rattle.recipe.specs.Recipe.{recipe_stages}
use Rattle.refusals.specs.declared.Refusal.{Refusal}
use Rattle.room.specs.Room.{lent, Kept}
use Rattle.filter_answers.specs.PlaneAnswer.{plane_answer}

-- the output after an answer: as before a refusal, else the filtered plane and the old tail
abbrev pub plane_output : Result ℕ Refusal → ℕ → ℕ → List Stage → List ℕ → List ℕ → List ℕ
plane_output (Err r) W H ts plane out = out
plane_output (Ok T) W H ts plane out = written W H ts plane ++ drop (W * H) out

-- demand 3: each written sample lies within T of the exact result
abbrev pub PlaneWithin : Result ℕ Refusal → ℕ → ℕ → List Stage → List ℕ → List ℕ → Type 0
PlaneWithin (Err r) W H ts plane out = Unit {0}
PlaneWithin (Ok T) W H ts plane out =
    (u v : ℕ) → u < W → v < H → Within T (exact_denominator ts) (get_or out (v * W + u) 0) (get_or (exact W H ts plane) (v * W + u) 0)

-- what `filter_plane` ensures
pub record FiltersPlane (recipe : List ℕ) (W H : ℕ) (plane work work' : List ℕ) (rows rows' : List ℤ) (sums sums' out out' : List ℕ) (answer : Result ℕ Refusal) : Type 0 where
  pub answered : answer ≡ plane_answer recipe W H (length plane) (lent (length work) (length rows) (length sums) (length out))
  pub output : out' ≡ plane_output answer W H (recipe_stages recipe) plane out
  pub within : PlaneWithin answer W H (recipe_stages recipe) plane out'
  pub work-kept : Kept (is_err answer) work work'
  pub rows-kept : Kept (is_err answer) rows rows'
  pub sums_kept : Kept (is_err answer) sums sums'
