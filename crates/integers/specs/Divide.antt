-- Quotients of whole numbers, rounded down, up or to the nearest, what rounding down leaves, and the clamp.
use Rattle.std.specs.Prelude.{ℕ, suc, ◌+◌, ◌-◌, ◌*◌, ◌/◌, ◌%◌, min, ℤ, pos, negsuc}
use Rattle.std.specs.Int.Signed.{shr_z}

-- z / m rounded down (m above 0), also below zero: -1 / 2 gives -1
abbrev pub floor_div : ℤ → ℕ → ℤ
floor_div z m = shr_z z m

-- what rounding down leaves, 0 to m - 1: z less m times its quotient
unfoldable pub modulo : ℤ → ℕ → ℕ
modulo (pos a) m = a % m
modulo (negsuc a) m = m - suc (a % m)

-- a / m rounded up (m above 0)
unfoldable pub ceil_div : ℕ → ℕ → ℕ
ceil_div a m = (a + (m - 1)) / m

-- a / m rounded to the nearest, halves up (m above 0)
abbrev pub nearest : ℕ → ℕ → ℕ
nearest a m = (2 * a + m) / (2 * m)

-- z cut to 0 to m
unfoldable pub clamp : ℕ → ℤ → ℕ
clamp m (pos n) = min n m
clamp m (negsuc n) = 0
