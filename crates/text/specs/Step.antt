-- One step over separators, as the code takes it.
use Rattle.std.specs.Prelude.{ℕ, Bool, true, false, cond, not, eqb, Option, Some, None}
use Rattle.text.specs.Text.{is_space}

-- whether a byte ends a run of separators (`None`), or the run goes on, inside a comment or not
unfoldable pub step_of : Bool → ℕ → Option Bool
step_of true b = Some (not (eqb b 10))
step_of false b = cond (is_space b) (Some false) (cond (eqb b 35) (Some true) None)
