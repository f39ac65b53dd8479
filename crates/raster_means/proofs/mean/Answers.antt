-- `raster_means::mean` meets its contract. Assumes nothing.
use Prim.Native.Nat.{ℕ, ◌+◌, ◌*◌, ◌-◌, ◌/◌, ◌^◌, ◌≤◌, ◌<◌}
use native.Mathlib.Nat.{le_refl, mul-le-mul, div-add-mod, div-lt_iff_lt-mul}
use native.Mathlib.Omega.{arith}
use mathlib.Core.Path.{◌≡◌}
use Rattle.integers.proofs.Reciprocal.{by_reciprocal}
use Rattle.raster_means.proofs.mean.Goals as goal

-- what is required
abbrev Known : ℕ → ℕ → ℕ → Type 0
Known k sum by = (1 ≤ k) × (k ≤ 65535) × (sum ≤ 255 * k) × (by ≡ (2 ^ 48 + (2 * k - 1)) / (2 * k))

module _ {k sum by : ℕ} (h : Known k sum by) where
  -- the product fits 64 bits
  small : (2 * sum + k) * by < 2 ^ 64
  small =
      let few : 2 * sum + k ≤ 511 * k = omega (arith, h.2) in
      let one : (2 * k) * ((2 ^ 48 + (2 * k - 1)) / (2 * k)) ≤ 2 ^ 48 + (2 * k - 1) = omega (arith, div-add-mod (2 ^ 48 + (2 * k - 1)) (2 * k)) in
      rw h.3 (omega (arith, mul-le-mul few (le_refl ((2 ^ 48 + (2 * k - 1)) / (2 * k))), one, h.1))

  exact : (2 * sum + k) * by / 2 ^ 48 ≡ (2 * sum + k) / (2 * k)
  exact =
      let few : (2 * sum + k) * (2 * k - 1) ≤ 33488385 * 131069 = mul-le-mul {n₂ = 33488385} {m₂ = 131069} (omega (arith, h.1, h.2)) (omega (arith, h.1)) in
      rw h.3 (by_reciprocal (2 ^ 48) (2 * k) (2 * sum + k) (omega (arith, h.0)) (omega (arith, few)))

  a_byte : (2 * sum + k) / (2 * k) < 256
  a_byte = (div-lt_iff_lt-mul {k = 2 * k} {x = 2 * sum + k} {y = 256} (omega (arith, h.0))).1 (omega (arith, h.2, h.0))

pub overflow_mul-result-2 : goal.overflow_mul-result-2
overflow_mul-result-2 c =
    record { fits = omega (arith, small c.requires) }

pub overflow_cast-result-2 : goal.overflow_cast-result-2
overflow_cast-result-2 c =
    omega (arith, exact c.requires, a_byte c.requires)

pub returns : goal.returns
returns c =
    exact c.requires
