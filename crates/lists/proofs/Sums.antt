-- Sums and counts over lists: of two in one, and of one that is given by a function, one entry more at a time. Assumes nothing.
use Prim.Native.Nat.{ℕ, zero, suc, ◌+◌, ◌*◌, ◌≤◌, ◌<◌}
use native.Mathlib.Numerals.{add-one}
use native.Mathlib.Omega.{arith}
use mathlib.Core.Path.{◌≡◌, refl}
use mathlib.Core.Bool.{Bool, cond}
use mathlib.Core.List.{List, [], ◌∷◌, ◌++◌, map}
use Rattle.integers.specs.Sum.{sum}
use Rattle.lists.specs.Tabulate.{tabulate}
use Rattle.lists.specs.Count.{count}

pub sum_append : (xs ys : List ℕ) → sum (xs ++ ys) ≡ sum xs + sum ys
unfolding sum
sum_append [] ys = omega arith
sum_append (x ∷ xs) ys = omega (arith, sum_append xs ys)

sum-suc : (f : ℕ → ℕ) (n : ℕ) → sum (tabulate f (suc n)) ≡ sum (tabulate f n) + f n
unfolding sum tabulate
sum-suc f zero = omega arith
sum-suc f (suc n) = omega (arith, sum-suc (λ i. f (suc i)) n)

pub sum_more : (f : ℕ → ℕ) (n : ℕ) → sum (tabulate f (n + 1)) ≡ sum (tabulate f n) + f n
sum_more f n = rw add-one (sum-suc f n)

pub sum-none : (f : ℕ → ℕ) → sum (tabulate f 0) ≡ 0
unfolding sum tabulate
sum-none f = refl

pub sum_bound : (f : ℕ → ℕ) (n M : ℕ) → ((i : ℕ) → i < n → f i ≤ M) → sum (tabulate f n) ≤ n * M
unfolding sum tabulate
sum_bound f zero M h = omega arith
sum_bound f (suc n) M h = omega (arith, h 0 (omega arith), sum_bound (λ i. f (suc i)) n M (λ i l. h (suc i) (omega arith)))

module _ {A : Type 0} (p : A → Bool) where
  count-suc : (f : ℕ → A) (n : ℕ) → count p (tabulate f (suc n)) ≡ count p (tabulate f n) + cond (p (f n)) 1 0
  unfolding count tabulate
  count-suc f zero = omega arith
  count-suc f (suc n) = omega (arith, count-suc (λ i. f (suc i)) n)

  pub count-more : (f : ℕ → A) (n : ℕ) → count p (tabulate f (n + 1)) ≡ count p (tabulate f n) + cond (p (f n)) 1 0
  count-more f n = rw add-one (count-suc f n)

pub map-tabulate : {A B : Type 0} (g : A → B) (f : ℕ → A) (n : ℕ) → map g (tabulate f n) ≡ tabulate (λ i. g (f i)) n
unfolding tabulate
map-tabulate g f zero = refl
map-tabulate {B = B} g f (suc n) = mathlib.Core.Path.ap (λ (l : List B). g (f 0) ∷ l) (map-tabulate g (λ i. f (suc i)) n)

pub count_none : {A : Type 0} (p : A → Bool) (f : ℕ → A) → count p (tabulate f 0) ≡ 0
unfolding count tabulate
count_none p f = refl
