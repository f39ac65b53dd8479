-- Sums of the fronts of a list. Assumes nothing.
use Rattle.std.proofs.Common.{◌≡◌, ℕ, zero, suc, ◌+◌, ◌<◌, ◌≤◌, List, [], ◌∷◌, length, get_or, take, drop, le_of_suc-le-suc, not-suc-le-zero, add-one, arith, take-add}
use Rattle.integers.specs.Sum.{sum}
use Rattle.lists.proofs.Sums.{sum_append}
use Rattle.running_sums.specs.Fours.{four_sum}

-- the front of a list, one element longer
pub sum-take-suc : (n : ℕ) (xs : List ℕ) → n < length xs → sum (take (suc n) xs) ≡ sum (take n xs) + get_or xs n 0
unfolding sum
sum-take-suc n [] h = absurd (not-suc-le-zero h)
sum-take-suc zero (x ∷ xs) h = omega arith
sum-take-suc (suc n) (x ∷ xs) h = omega (arith, sum-take-suc n xs (le_of_suc-le-suc h))

pub sum-take-more : (n : ℕ) (xs : List ℕ) → n < length xs → sum (take (n + 1) xs) ≡ sum (take n xs) + get_or xs n 0
sum-take-more n xs h = rw add-one (sum-take-suc n xs h)

-- a front in two parts
pub sum-take-add : (n k : ℕ) (xs : List ℕ) → sum (take (n + k) xs) ≡ sum (take n xs) + sum (take k (drop n xs))
sum-take-add n k xs = rw (take-add n k xs) (sum_append (take n xs) (take k (drop n xs)))

-- four elements more
pub sum-take-four : (n : ℕ) (xs : List ℕ) → n + 4 ≤ length xs → sum (take (n + 4) xs) ≡ sum (take n xs) + four_sum xs n
unfolding four_sum
sum-take-four n xs h =
    let two : n + 1 + 1 ≡ n + 2 = omega arith in
    let three : n + 2 + 1 ≡ n + 3 = omega arith in
    let four : n + 3 + 1 ≡ n + 4 = omega arith in
    omega (
      arith,
      sum-take-more n xs (omega (arith, h)),
      rw two at (sum-take-more (n + 1) xs (omega (arith, h))),
      rw three at (sum-take-more (n + 2) xs (omega (arith, h))),
      rw four at (sum-take-more (n + 3) xs (omega (arith, h))),
    )
