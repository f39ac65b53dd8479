-- `mean_rows::mean` meets its contract. Assumes nothing.
use Rattle.std.proofs.Common.{◌≡◌, ℕ, ◌+◌, ◌-◌, ◌*◌, ◌/◌, ◌^◌, ◌<◌, ◌≤◌, div-lt_iff_lt-mul, mul-le-mul, div-le_self, arith}
use Rattle.integers.proofs.Reciprocal.{by_reciprocal}
use Rattle.mean_rows.proofs.mean.Goals as goal

-- what is required
abbrev Known : ℕ → ℕ → ℕ → Type 0
Known area sum by = (1 ≤ area) × (area ≤ 961) × (sum ≤ 255 * area) × (by ≡ (2 ^ 32 + (2 * area - 1)) / (2 * area))

module _ {area sum by : ℕ} (k : Known area sum by) where
  -- the product fits 64 bits by far
  small : (2 * sum + area) * by ≤ 491071 * 4294969217
  small = mul-le-mul {n₂ = 491071} {m₂ = 4294969217} (omega arith) (omega (arith, div-le_self (2 ^ 32 + (2 * area - 1)) (2 * area)))

  exact : (2 * sum + area) * by / 2 ^ 32 ≡ (2 * sum + area) / (2 * area)
  exact =
      let few : (2 * sum + area) * (2 * area - 1) ≤ 491071 * 1921 = mul-le-mul {n₂ = 491071} {m₂ = 1921} (omega arith) (omega arith) in
      rw k.3 (by_reciprocal (2 ^ 32) (2 * area) (2 * sum + area) (omega arith) (omega arith))

  a_byte : (2 * sum + area) / (2 * area) < 256
  a_byte = (div-lt_iff_lt-mul {k = 2 * area} {x = 2 * sum + area} {y = 256} (omega arith)).1 (omega arith)

pub overflow_mul-result-2 : goal.overflow_mul-result-2
overflow_mul-result-2 c =
    record { fits = omega (arith, small c.requires) }

pub overflow_cast-result-3 : goal.overflow_cast-result-3
overflow_cast-result-3 c =
    omega (arith, exact c.requires, a_byte c.requires)

pub returns : goal.returns
returns c =
    exact c.requires
