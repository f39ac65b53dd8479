-- Laws of quotients, remainders and the clamp. Assumes nothing.
use Prim.Native.Nat.{ℕ, suc, ◌+◌, ◌*◌, ◌-◌, ◌/◌, ◌%◌, ◌<◌, ◌≤◌, min}
use mathlib.Core.Path.{◌≡◌, refl, sym, ap, ◌∙◌}
use native.Mathlib.Nat.{div-add-mod, mod-lt, min-eq_left, lt_of_mul-lt-mul_left}
use native.Mathlib.Omega.{arith}
use lib.Arith.{digits_div, digits_mod}
use lib.IntN.{ℤ, pos, negsuc}
use Rattle.integers.specs.Divide.{floor_div, modulo, ceil_div, clamp}
use Rattle.integers.proofs.Parts.{pos_part, neg_part, parts_ext}

-- z = m q + r, r < m
pub record Divided (z : ℤ) (m : ℕ) (q : ℤ) (r : ℕ) : Type 0 where
  pub whole : m * pos_part q + r + neg_part z ≡ pos_part z + m * neg_part q
  pub small : r < m

pub divided : (z : ℤ) (m : ℕ) → 0 < m → Divided z m (floor_div z m) (modulo z m)
unfolding modulo
divided (pos a) m h = record { whole = omega (arith, div-add-mod a m); small = mod-lt a h }
divided (negsuc a) m h = record { whole = omega (arith, div-add-mod a m, mod-lt a h); small = omega (arith, mod-lt a h) }

-- a quotient and a remainder are the only ones
pub divided_unique : {z : ℤ} {m : ℕ} {q q' : ℤ} {r r' : ℕ} → Divided z m q r → Divided z m q' r' → (q ≡ q') × (r ≡ r')
divided_unique {z} {m} {q} {q'} {r} {r'} d e =
    let same : (pos_part q + neg_part q') * m + r ≡ (pos_part q' + neg_part q) * m + r' = omega (arith, d.whole, e.whole) in (
      parts_ext q q' (sym (digits_div (pos_part q + neg_part q') d.small) ∙ ap (λ (n : ℕ). n / m) same ∙ digits_div (pos_part q' + neg_part q) e.small),
      sym (digits_mod (pos_part q + neg_part q') d.small) ∙ ap (λ (n : ℕ). n % m) same ∙ digits_mod (pos_part q' + neg_part q) e.small,
    )

-- m q ≤ z < m q + m
pub record Floor (z : ℤ) (m : ℕ) (q : ℤ) : Type 0 where
  pub low : m * pos_part q + neg_part z ≤ pos_part z + m * neg_part q
  pub high : pos_part z + m * neg_part q < m * pos_part q + neg_part z + m

pub floor_law : (z : ℤ) (m : ℕ) → 0 < m → Floor z m (floor_div z m)
floor_law z m h = let d = divided z m h in omega arith

pub ceil_law : (a m : ℕ) → 0 < m → a ≤ m * ceil_div a m
unfolding ceil_div
ceil_law a m h = omega (arith, div-add-mod (a + (m - 1)) m, mod-lt (a + (m - 1)) h)

pub ceil_least : (a m c : ℕ) → 0 < m → a ≤ m * c → ceil_div a m ≤ c
unfolding ceil_div
ceil_least a m c h l =
    let e : m * ((a + (m - 1)) / m) < m * suc c = omega (arith, div-add-mod (a + (m - 1)) m) in
    let k : (a + (m - 1)) / m < suc c = lt_of_mul-lt-mul_left m e in
    omega arith

pub ceil_mono : {a b : ℕ} (m : ℕ) → 0 < m → a ≤ b → ceil_div a m ≤ ceil_div b m
ceil_mono {a} {b} m h l = ceil_least a m (ceil_div b m) h (omega (arith, ceil_law b m h))

pub clamp-parts : (m : ℕ) (z : ℤ) → clamp m z ≡ min (pos_part z) m
unfolding clamp
clamp-parts m (pos n) = refl
clamp-parts m (negsuc n) = omega arith

pub clamp-le : (m : ℕ) (z : ℤ) → clamp m z ≤ m
unfolding clamp
clamp-le m (pos n) = omega arith
clamp-le m (negsuc n) = omega arith

pub clamp-inside : {m n : ℕ} → n ≤ m → clamp m (pos n) ≡ n
unfolding clamp
clamp-inside h = min-eq_left h
