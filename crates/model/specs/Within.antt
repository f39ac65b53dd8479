-- What the tolerance promises of one written sample ('Tolerance').
use Rattle.std.specs.Prelude.{ℕ, ◌+◌, ◌*◌, ◌-◌, ◌≤◌}

-- |a - b|
unfoldable pub distance : ℕ → ℕ → ℕ
distance a b = (a - b) + (b - a)

-- y is at most T/65,536 away from x/N, said without fractions: 65,536·|N·y - x| ≤ T·N
unfoldable pub Within : ℕ → ℕ → ℕ → ℕ → Type 0
Within T N y x = 65536 * distance (N * y) x ≤ T * N
