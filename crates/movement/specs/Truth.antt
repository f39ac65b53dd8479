-- What a motion says of the exact samples x/N and x'/N', without fractions.
use Rattle.std.specs.Prelude.{ℕ, ◌*◌, ◌≤◌, ◌<◌}
use Rattle.model.specs.Within.{distance}
use Rattle.movement.specs.Motion.{Motion, moved, still, unsettled}

-- the magnitude of x/N - x'/N', as a numerator over N·N'
unfoldable pub exact_difference : ℕ → ℕ → ℕ → ℕ → ℕ
exact_difference N x N' x' = distance (x * N') (x' * N)

-- moved: the exact difference exceeds L levels in magnitude; still: it does not; open says nothing
abbrev pub TrueOf : Motion → ℕ → ℕ → ℕ → ℕ → ℕ → Type 0
TrueOf moved L N x N' x' = L * (N * N') < exact_difference N x N' x'
TrueOf still L N x N' x' = exact_difference N x N' x' ≤ L * (N * N')
TrueOf unsettled L N x N' x' = Unit {0}
