-- Laws of ℤ by the positive and the negative part of an integer: z = posPart z - negPart z, and one of the two is 0.
-- Each law is a fact of ℕ, so that `omega` works with it. Assumes nothing.
use Prim.Native.Nat.{ℕ, zero, suc, ◌+◌, ◌*◌, ◌-◌, ◌<◌, ◌≤◌}
use mathlib.Core.Path.{◌≡◌, refl, ap}
use mathlib.Core.Bool.{Bool, true, false, not, cond}
use native.Mathlib.Omega.{arith}
use lib.Dec.{T, ltb, ltb→lt, nltb→le}
use lib.IntN.{ℤ, pos, negsuc, neg_ℤ, nat_abs, sub_ℕ, ◌+ℤ◌, ◌-ℤ◌, ◌*ℤ◌, *ℤ_comm}

abbrev pub pos_part : ℤ → ℕ
pos_part (pos n) = n
pos_part (negsuc n) = 0

abbrev pub neg_part : ℤ → ℕ
neg_part (pos n) = 0
neg_part (negsuc n) = suc n

-- two integers with the same difference of parts are equal
pub parts_ext : (x y : ℤ) → pos_part x + neg_part y ≡ pos_part y + neg_part x → x ≡ y
parts_ext (pos a) (pos b) h = ap pos (omega arith)
parts_ext (pos a) (negsuc b) h = absurd (omega arith)
parts_ext (negsuc a) (pos b) h = absurd (omega arith)
parts_ext (negsuc a) (negsuc b) h = ap negsuc (omega arith)

-- z = a - b, and its parts are at most a and b
pub record Parts (z : ℤ) (a b : ℕ) : Type 0 where
  pub sum : pos_part z + b ≡ a + neg_part z
  pub high : pos_part z ≤ a
  pub low : neg_part z ≤ b

pub difference_parts : (a b : ℕ) → Parts (sub_ℕ a b) a b
difference_parts a b = go (ltb a b) (ltb→lt a b) (nltb→le a b)
  where
    go : (t : Bool) → (T t → a < b) → (T (not t) → b ≤ a) → Parts (cond t (negsuc (b - suc a)) (pos (a - b))) a b
    go true h k = let l = h tt in omega arith
    go false h k = let l = k tt in omega arith

pub add_parts : (x y : ℤ) → Parts (x +ℤ y) (pos_part x + pos_part y) (neg_part x + neg_part y)
add_parts (pos a) (pos b) = omega arith
add_parts (pos a) (negsuc b) = omega (arith, difference_parts a (suc b))
add_parts (negsuc a) (pos b) = omega (arith, difference_parts b (suc a))
add_parts (negsuc a) (negsuc b) = omega arith

pub record Negated (x : ℤ) : Type 0 where
  pub high : pos_part (neg_ℤ x) ≡ neg_part x
  pub low : neg_part (neg_ℤ x) ≡ pos_part x

pub neg-parts : (x : ℤ) → Negated x
neg-parts (pos zero) = omega arith
neg-parts (pos (suc a)) = omega arith
neg-parts (negsuc a) = omega arith

pub sub_parts : (x y : ℤ) → Parts (x -ℤ y) (pos_part x + neg_part y) (neg_part x + pos_part y)
sub_parts x y = omega (arith, add_parts x (neg_ℤ y), neg-parts y)

pub record Product (x y : ℤ) : Type 0 where
  pub high : pos_part (x *ℤ y) ≡ pos_part x * pos_part y + neg_part x * neg_part y
  pub low : neg_part (x *ℤ y) ≡ pos_part x * neg_part y + neg_part x * pos_part y

pub mul-parts : (x y : ℤ) → Product x y
mul-parts (pos a) (pos b) = omega arith
mul-parts (pos a) (negsuc b) = omega (arith, neg-parts (pos (a * suc b)))
mul-parts (negsuc a) (pos b) = omega (arith, neg-parts (pos (suc a * b)))
mul-parts (negsuc a) (negsuc b) = omega arith

-- one part at most is not 0
pub one-part : (z : ℤ) → 0 < neg_part z → pos_part z ≡ 0
one-part (pos n) h = absurd (omega (arith, h))
one-part (negsuc n) h = refl

pub no_negative : (z : ℤ) → neg_part z ≤ pos_part z → neg_part z ≡ 0
no_negative (pos n) h = refl
no_negative (negsuc n) h = absurd (omega (arith, h))

pub abs_parts : (x : ℤ) → nat_abs x ≡ pos_part x + neg_part x
abs_parts (pos a) = omega arith
abs_parts (negsuc a) = omega arith

pub add-mul : (x y z : ℤ) → (x +ℤ y) *ℤ z ≡ x *ℤ z +ℤ y *ℤ z
add-mul x y z =
    parts_ext _ _
    (omega (
      arith,
      mul-parts (x +ℤ y) z,
      mul-parts x z,
      mul-parts y z,
      add_parts (x *ℤ z) (y *ℤ z),
      ap (λ (n : ℕ). n * pos_part z) (add_parts x y).sum,
      ap (λ (n : ℕ). n * neg_part z) (add_parts x y).sum,
    ))

pub mul-add : (x y z : ℤ) → x *ℤ (y +ℤ z) ≡ x *ℤ y +ℤ x *ℤ z
mul-add x y z = rw (*ℤ_comm x (y +ℤ z), *ℤ_comm x y, *ℤ_comm x z) (add-mul y z x)

-- two factors of a product in the other order
pub mul_swap : (x y z : ℤ) → x *ℤ (y *ℤ z) ≡ y *ℤ (x *ℤ z)
mul_swap x y z =
    let m = mul-parts y z in
    let n = mul-parts x z in
    parts_ext _ _
    (omega (
      arith,
      mul-parts x (y *ℤ z),
      mul-parts y (x *ℤ z),
      ap (λ (k : ℕ). pos_part x * k) m.high,
      ap (λ (k : ℕ). pos_part x * k) m.low,
      ap (λ (k : ℕ). neg_part x * k) m.high,
      ap (λ (k : ℕ). neg_part x * k) m.low,
      ap (λ (k : ℕ). pos_part y * k) n.high,
      ap (λ (k : ℕ). pos_part y * k) n.low,
      ap (λ (k : ℕ). neg_part y * k) n.high,
      ap (λ (k : ℕ). neg_part y * k) n.low,
    ))

-- sums regrouped in pairs
pub add-add : (a b c d : ℤ) → a +ℤ b +ℤ (c +ℤ d) ≡ a +ℤ c +ℤ (b +ℤ d)
add-add a b c d =
    parts_ext _ _
    (omega (
      arith,
      add_parts a b,
      add_parts c d,
      add_parts (a +ℤ b) (c +ℤ d),
      add_parts a c,
      add_parts b d,
      add_parts (a +ℤ c) (b +ℤ d),
    ))

pub add_sub : (x y : ℤ) → x +ℤ (y -ℤ x) ≡ y
add_sub x y = parts_ext _ _ (omega (arith, sub_parts y x, add_parts x (y -ℤ x)))

-- the size of a sum, and of a product
pub abs_add : (x y : ℤ) → nat_abs (x +ℤ y) ≤ nat_abs x + nat_abs y
abs_add x y = omega (arith, add_parts x y, abs_parts x, abs_parts y, abs_parts (x +ℤ y))

pub abs_mul : (x y : ℤ) → nat_abs (x *ℤ y) ≡ nat_abs x * nat_abs y
abs_mul x y = ap2 (abs_parts (x *ℤ y)) (mul-parts x y)
  where
    ap2 : nat_abs (x *ℤ y) ≡ pos_part (x *ℤ y) + neg_part (x *ℤ y) → Product x y → nat_abs (x *ℤ y) ≡ nat_abs x * nat_abs y
    ap2 e m = rw (abs_parts x, abs_parts y) (omega (arith, e, m))

pub abs_diff : (a b : ℕ) → nat_abs (pos a -ℤ pos b) ≡ (a - b) + (b - a)
abs_diff a zero = omega arith
abs_diff a (suc b) = go (ltb a (suc b)) (ltb→lt a (suc b)) (nltb→le a (suc b))
  where
    go : (t : Bool) → (T t → a < suc b) → (T (not t) → suc b ≤ a) → nat_abs (cond t (negsuc (suc b - suc a)) (pos (a - suc b))) ≡ (a - suc b) + (suc b - a)
    go true h k = let l = h tt in omega arith
    go false h k = let l = k tt in omega arith
