-- Distances of two scaled integers, |k x - l y| ≤ e, stated in ℕ by their parts. Assumes nothing.
use Prim.Native.Nat.{ℕ, suc, ◌+◌, ◌*◌, ◌≤◌, ◌<◌, min, max}
use native.Mathlib.Nat.{mul-le-mul_left, min-eq_left, min-eq_right}
use native.Mathlib.Omega.{arith}
use native.Mathlib.Decide.{dec_le}
use mathlib.Core.Path.{◌≡◌, ap}
use lib.IntN.{ℤ, pos, negsuc, nat_abs, ◌+ℤ◌, ◌*ℤ◌, *ℤ_comm}
use Rattle.integers.specs.Divide.{floor_div, clamp}
use Rattle.integers.proofs.Parts.{pos_part, neg_part, add_parts, mul-parts, abs_parts}
use Rattle.integers.proofs.Divide.{floor_law}

pub record Near (k : ℕ) (x : ℤ) (l : ℕ) (y : ℤ) (e : ℕ) : Type 0 where
  pub le : k * pos_part x + l * neg_part y ≤ l * pos_part y + k * neg_part x + e
  pub ge : l * pos_part y + k * neg_part x ≤ k * pos_part x + l * neg_part y + e

pub near_trans : {k l m : ℕ} {x y z : ℤ} {d e : ℕ} → Near k x l y d → Near l y m z e → Near k x m z (d + e)
near_trans p q = omega arith

pub near_mono : {k l : ℕ} {x y : ℤ} {d e : ℕ} → Near k x l y d → d ≤ e → Near k x l y e
near_mono p h = omega arith

pub near-zero : (k l : ℕ) → Near k (pos 0) l (pos 0) 0
near-zero k l = omega arith

-- both scales and the distance times c
pub near_scale : (c : ℕ) {k l : ℕ} {x y : ℤ} {e : ℕ} → Near k x l y e → Near (c * k) x (c * l) y (c * e)
near_scale c p = omega (arith, mul-le-mul_left c p.le, mul-le-mul_left c p.ge)

-- the same, with the scales written another way and a distance that is no smaller
pub near_rescale : (c : ℕ) {k l k' l' : ℕ} {x y : ℤ} {e e' : ℕ} → Near k x l y e → c * k ≡ k' → c * l ≡ l' → c * e ≤ e' → Near k' x l' y e'
near_rescale c {x = x} {y = y} p hk hl he =
    omega (
      arith,
      near_scale c p,
      ap (λ (n : ℕ). n * pos_part x) hk,
      ap (λ (n : ℕ). n * neg_part x) hk,
      ap (λ (n : ℕ). n * pos_part y) hl,
      ap (λ (n : ℕ). n * neg_part y) hl,
    )

pub near_add : {k l : ℕ} {x y x' y' : ℤ} {d e : ℕ} → Near k x l y d → Near k x' l y' e → Near k (x +ℤ x') l (y +ℤ y') (d + e)
near_add {k} {l} {x} {y} {x'} {y'} p q = omega (arith, ap (λ (n : ℕ). k * n) (add_parts x x').sum, ap (λ (n : ℕ). l * n) (add_parts y y').sum)

-- k times the parts of a product
record Scaled (k : ℕ) (a x : ℤ) : Type 0 where
  high : k * pos_part (a *ℤ x) ≡ k * (pos_part a * pos_part x + neg_part a * neg_part x)
  low : k * neg_part (a *ℤ x) ≡ k * (pos_part a * neg_part x + neg_part a * pos_part x)

product : (a : ℤ) (k : ℕ) (x : ℤ) → Scaled k a x
product a k x = record { high = ap (λ (n : ℕ). k * n) (mul-parts a x).high; low = ap (λ (n : ℕ). k * n) (mul-parts a x).low }

-- a factor before both
pub near_mul : (a : ℤ) {k l : ℕ} {x y : ℤ} {e : ℕ} → Near k x l y e → Near k (a *ℤ x) l (a *ℤ y) (nat_abs a * e)
near_mul (pos a) {k} {l} {x} {y} p = omega (arith, near_scale a p, product (pos a) k x, product (pos a) l y)
near_mul (negsuc a) {k} {l} {x} {y} p = omega (arith, near_scale (suc a) p, product (negsuc a) k x, product (negsuc a) l y)

-- a factor of at most M behind both
pub near_mul_bounded : {k l : ℕ} {a b : ℤ} {e : ℕ} (x : ℤ) {M : ℕ} → Near k a l b e → nat_abs x ≤ M → Near k (a *ℤ x) l (b *ℤ x) (e * M)
near_mul_bounded {a = a} {b = b} {e = e} x p h = near_mono (rw (*ℤ_comm x a, *ℤ_comm x b) at (near_mul x p)) (omega (arith, mul-le-mul_left e h))

-- rounding to the nearest, halves upward: z over 2 c
pub near-round : (z : ℤ) (c : ℕ) → 0 < c → Near (2 * c) (floor_div (z +ℤ pos c) (2 * c)) 1 z c
near-round z c h = omega (arith, floor_law (z +ℤ pos c) (2 * c) (omega arith), add_parts z (pos c))

pub near_of_abs : (x : ℤ) {M : ℕ} → nat_abs x ≤ M → Near 1 x 1 (pos 0) M
near_of_abs x h = omega (arith, abs_parts x)

pub abs_of_near : {k l : ℕ} (x : ℤ) {e : ℕ} → Near k x l (pos 0) e → k * nat_abs x ≤ e
abs_of_near (pos n) p = omega arith
abs_of_near (negsuc n) p = omega arith

pub near-magnitude : {k l : ℕ} (x y : ℤ) {e : ℕ} → Near k x l y e → k * nat_abs x ≤ l * nat_abs y + e
near-magnitude (pos n) (pos m) p = omega arith
near-magnitude (pos n) (negsuc m) p = omega arith
near-magnitude (negsuc n) (pos m) p = omega arith
near-magnitude (negsuc n) (negsuc m) p = omega arith

-- magnitudes are no further apart
pub near_abs : {k l e : ℕ} (x y : ℤ) → Near k x l y e → Near k (pos (nat_abs x)) l (pos (nat_abs y)) e
near_abs x y p = omega (arith, near-magnitude x y p, near-magnitude y x (record { le = p.ge; ge = p.le }))

pub mul-min : (N n m : ℕ) → N * min n m ≡ min (N * n) (N * m)
mul-min N n m = go (dec_le n m)
  where
    go : Dec (n ≤ m) → N * min n m ≡ min (N * n) (N * m)
    go (yes h) = omega (arith, ap (λ (k : ℕ). N * k) (min-eq_left h), mul-le-mul_left N h)
    go (no h) = let l : m ≤ n = omega arith in omega (arith, ap (λ (k : ℕ). N * k) (min-eq_right l), mul-le-mul_left N l)

pub mul-max : (N n m : ℕ) → N * max n m ≡ max (N * n) (N * m)
mul-max N n m = let both : max n m + min n m ≡ n + m = omega arith in omega (arith, mul-min N n m, ap (λ (k : ℕ). N * k) both)

-- nor is the larger of two
pub near-max : {k l e : ℕ} (a b c d : ℕ) → Near k (pos a) l (pos b) e → Near k (pos c) l (pos d) e → Near k (pos (max a c)) l (pos (max b d)) e
near-max {k} {l} a b c d p q = omega (arith, mul-max k a c, mul-max l b d)

-- clamped to 0 to M, and to 0 to M N: no further apart
pub near-clamp : (k N M : ℕ) (y x : ℤ) {e : ℕ} → Near (k * N) y k x e → Near (k * N) (pos (clamp M y)) k (pos (clamp (M * N) x)) e
unfolding clamp
near-clamp k N M (pos n) (pos m) p = omega (arith, mul-min (k * N) n M, mul-min k m (M * N))
near-clamp k N M (pos n) (negsuc m) p = omega (arith, mul-min (k * N) n M)
near-clamp k N M (negsuc n) (pos m) p = omega (arith, mul-min k m (M * N))
near-clamp k N M (negsuc n) (negsuc m) p = omega arith
