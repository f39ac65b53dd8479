-- The reciprocal by which a window's sum becomes its mean.
use Rattle.std.specs.Prelude.{ℕ, ◌+◌, ◌-◌, ◌*◌, ◌/◌, ◌^◌}

-- 2^32 / (2 area), rounded up
abbrev pub reciprocal_of : ℕ → ℕ
reciprocal_of area = (2 ^ 32 + (2 * area - 1)) / (2 * area)
