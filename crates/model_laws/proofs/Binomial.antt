-- Binomial kernels: the rows follow Pascal's rule and add up to 2^n, and a binomial kernel rises and sums to 1. Assumes nothing.
use Prim.Native.Nat.{ℕ, zero, suc, ◌+◌, ◌*◌, ◌^◌, ◌<◌}
use native.Mathlib.Omega.{arith}
use mathlib.Core.Path.{◌≡◌, refl, ap, ◌∙◌}
use mathlib.Core.List.{List, [], ◌∷◌}
use lib.ListN.{length, get_or}
use lib.Seq.{take_all}
use lib.IntN.{ℤ, pos, ◌-ℤ◌}
use lib.Signed.{◌<ℤ◌}
use Rattle.integers.specs.Sum.{sum, sumℤ}
use Rattle.integers.proofs.Parts.{sub_parts}
use Rattle.integers.proofs.Order.{lt_of_parts}
use Rattle.lists.specs.Tabulate.{tabulate}
use Rattle.lists.proofs.Tabulate.{tabulate-get_or, mem_tabulate}
use Rattle.model.specs.Kernel.{tap, kernel, total, Rising}
use Rattle.model.specs.Binomial.{pair_sums, pascal_row, choose, binomial}

-- ---- Pascal's rule

pair-at : (c : ℕ) (xs : List ℕ) (k : ℕ) → get_or (pair_sums c xs) (suc k) 0 ≡ get_or xs k 0 + get_or xs (suc k) 0
unfolding pair_sums
pair-at c [] zero = refl
pair-at c [] (suc k) = refl
pair-at c (x ∷ []) zero = omega arith
pair-at c (x ∷ y ∷ ys) zero = refl
pair-at c (x ∷ xs) (suc k) = pair-at x xs k

pair_first : (c : ℕ) (xs : List ℕ) → get_or (pair_sums c xs) 0 0 ≡ c + get_or xs 0 0
unfolding pair_sums
pair_first c [] = omega arith
pair_first c (x ∷ xs) = refl

pub choose-zero : (n : ℕ) → choose n 0 ≡ 1
unfolding choose pascal_row
choose-zero zero = refl
choose-zero (suc n) = omega (arith, pair_first 0 (pascal_row n), choose-zero n)

pub choose-suc : (n k : ℕ) → choose (suc n) (suc k) ≡ choose n k + choose n (suc k)
unfolding choose pascal_row
choose-suc n k = pair-at 0 (pascal_row n) k

-- ---- row n has n + 1 entries, which add up to 2^n

pair-length : (c : ℕ) (xs : List ℕ) → length (pair_sums c xs) ≡ suc (length xs)
unfolding pair_sums
pair-length c [] = refl
pair-length c (x ∷ xs) = ap suc (pair-length x xs)

pub row-length : (n : ℕ) → length (pascal_row n) ≡ suc n
unfolding pascal_row
row-length zero = refl
row-length (suc n) = pair-length 0 (pascal_row n) ∙ ap suc (row-length n)

pair-sum : (c : ℕ) (xs : List ℕ) → sum (pair_sums c xs) ≡ c + 2 * sum xs
unfolding pair_sums sum
pair-sum c [] = omega arith
pair-sum c (x ∷ xs) = omega (arith, pair-sum x xs)

pub row-sum : (n : ℕ) → sum (pascal_row n) ≡ 2 ^ n
unfolding pascal_row sum
row-sum zero = refl
row-sum (suc n) = omega (arith, pair-sum 0 (pascal_row n), row-sum n)

-- ---- the kernel

total-tabulate : (o : ℕ → ℤ) (g : ℕ → ℕ) (n : ℕ) → total (tabulate (λ k. tap (o k) (pos (g k))) n) ≡ pos (sum (tabulate g n))
unfolding total sumℤ sum tabulate tap
total-tabulate o g zero = refl
total-tabulate o g (suc n) = rw (total-tabulate (λ k. o (suc k)) (λ k. g (suc k)) n)

-- taps whose offsets rise as far as they go
pub rising_tabulate : (o g : ℕ → ℤ) (n : ℕ) → ((i j : ℕ) → i < j → j < n → o i <ℤ o j) → Rising (tabulate (λ k. tap (o k) (g k)) n)
unfolding tabulate tap
rising_tabulate o g zero h = tt
rising_tabulate o g (suc n) h = (
  (λ s m. let p = mem_tabulate (λ k. tap (o (suc k)) (g (suc k))) n s m in rw p.2 (h 0 (suc p.0) (omega arith) (omega (arith, p.1)))),
  rising_tabulate (λ k. o (suc k)) (λ k. g (suc k)) n (λ i j l k. h (suc i) (suc j) (omega arith) (omega arith)),
)

pub binomial_rising : (r : ℕ) → Rising (binomial r).taps
unfolding binomial kernel
binomial_rising r =
    rising_tabulate (λ k. pos k -ℤ pos r) (λ k. pos (choose (2 * r) k)) (2 * r + 1)
    (λ i j h _. lt_of_parts _ _ (omega (arith, sub_parts (pos i) (pos r), sub_parts (pos j) (pos r))))

pub binomial-total : (r : ℕ) → total (binomial r).taps ≡ pos (binomial r).divisor
unfolding binomial kernel choose
binomial-total r =
    total-tabulate (λ k. pos k -ℤ pos r) (λ k. choose (2 * r) k) (2 * r + 1)
    ∙ ap pos (ap sum (tabulate-get_or (pascal_row (2 * r)) 0 (2 * r + 1) (omega (arith, row-length (2 * r))) ∙ take_all (2 * r + 1) (pascal_row (2 * r)) (omega (arith, row-length (2 * r)))) ∙ row-sum (2 * r))
