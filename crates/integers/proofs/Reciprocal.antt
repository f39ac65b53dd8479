-- A quotient by a product and a shift. Assumes nothing.
use Prim.Native.Nat.{ℕ, ◌+◌, ◌*◌, ◌-◌, ◌/◌, ◌%◌, ◌≤◌, ◌<◌}
use native.Mathlib.Nat.{div-add-mod, mod-lt, div-eq_of_lt-le, lt_of_mul-lt-mul_left, mul-le-mul_left}
use native.Mathlib.Omega.{arith}
use mathlib.Core.Path.{◌≡◌, ap}

-- The reciprocal m of d is rounded up, so d m = S + e with e < d. Then d (x m) = S x + x e, and while x e < S that is below S (x + 1):
-- x m / S does not reach the quotient after x / d. With S a power of 2 that is a shift.
module _ (S d x : ℕ) (p : 0 < d) (h : x * (d - 1) < S) where
  m : ℕ
  m = (S + (d - 1)) / d

  q : ℕ
  q = x / d

  -- e, what rounding up adds
  e : ℕ
  e = d - 1 - (S + (d - 1)) % d

  rounded-up : d * m ≡ S + e
  unfolding m e
  rounded-up = omega (arith, div-add-mod (S + (d - 1)) d, mod-lt (S + (d - 1)) p)

  reached : q * S ≤ x * m
  unfolding q
  reached = omega (arith, div-add-mod x d, ap (λ (n : ℕ). q * n) rounded-up, ap (λ (n : ℕ). n * m) (div-add-mod x d))

  not_passed : x * m < (q + 1) * S
  unfolding q e
  not_passed =
      let less : e ≤ d - 1 = omega arith in
      let above : x + 1 ≤ d * (q + 1) = omega (arith, div-add-mod x d, mod-lt x p) in
      lt_of_mul-lt-mul_left d (omega (arith, h, ap (λ (n : ℕ). x * n) rounded-up, mul-le-mul_left x less, mul-le-mul_left S above))

  pub by_reciprocal : x * ((S + (d - 1)) / d) / S ≡ x / d
  unfolding m q
  by_reciprocal = div-eq_of_lt-le S reached not_passed
