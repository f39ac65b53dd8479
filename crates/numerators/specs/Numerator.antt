-- Numerators as the code holds them: 2^38 too large, and then at least 0.
use Rattle.std.specs.Prelude.{ℕ, ◌^◌, ℤ, pos, ◌-ℤ◌, ◌*ℤ◌}
use Rattle.integers.specs.Divide.{modulo}

-- the numerator that is held as v
unfoldable pub numerator_of : ℕ → ℤ
numerator_of v = pos v -ℤ pos (2 ^ 38)

-- the remainder of a numerator in 65,536ths
unfoldable pub remainder_of : ℕ → ℕ → ℕ
remainder_of value divisor = modulo (pos 65536 *ℤ numerator_of value) divisor
