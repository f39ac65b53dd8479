-- When a level is near an exact fraction (request 2026-11).
use Rattle.std.specs.Prelude.{ℕ, ◌*◌, Bool, leb, ℤ}
use Rattle.integers.specs.Divide.{clamp}
use Rattle.model.specs.Within.{distance}

-- whether y is at most c levels away from x/N, said without fractions: |N·y - x| ≤ c·N
unfoldable pub near : ℕ → ℕ → ℕ → ℕ → Bool
near c N y x = leb (distance (N * y) x) (c * N)

-- the same of a numerator that is not clamped yet: it is cut to 0 to 255·N first
unfoldable pub near_clamped : ℕ → ℕ → ℕ → ℤ → Bool
near_clamped c N y z = near c N y (clamp (255 * N) z)
