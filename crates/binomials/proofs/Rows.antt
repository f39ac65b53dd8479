-- Even rows of Pascal's triangle, one after the other: C(2r, k) stands at r * r + k, and is at most 2^30 up to r = 15. Assumes nothing.
use Prim.Native.Nat.{ℕ, zero, suc, ◌+◌, ◌*◌, ◌^◌, ◌≤◌, ◌<◌}
use native.Mathlib.Nat.{not-suc-le-zero, mul-le-mul, le_trans}
use native.Mathlib.Omega.{arith}
use mathlib.Core.Path.{◌≡◌, refl, sym, ◌∙◌}
use mathlib.Core.Bool.{Bool, true, false, not}
use mathlib.Core.List.{List, [], ◌∷◌, ◌++◌}
use lib.Dec.{T, ltb, ltb→lt, nltb→le}
use lib.ListN.{length, get_or, length-append, get_or-append}
use lib.Pow.{pow_mono}
use lib.Seq.{get_or-append-add}
use Rattle.integers.specs.Sum.{sum}
use Rattle.model.specs.Binomial.{pascal_row, choose}
use Rattle.model_laws.proofs.Binomial.{row-length, row-sum}

-- rows 0, 2, .., 2 (n - 1)
unfoldable pub even_rows : ℕ → List ℕ
even_rows zero = []
even_rows (suc n) = even_rows n ++ pascal_row (2 * n)

rows-length : (n : ℕ) → length (even_rows n) ≡ n * n
unfolding even_rows
rows-length zero = refl
rows-length (suc n) = length-append (even_rows n) (pascal_row (2 * n)) ∙ omega (arith, rows-length n, row-length (2 * n))

pub rows_at : (n r k : ℕ) → r < n → k ≤ 2 * r → get_or (even_rows n) (r * r + k) 0 ≡ choose (2 * r) k
unfolding even_rows choose
rows_at zero r k h l = absurd (not-suc-le-zero h)
rows_at (suc n) r k h l = go (ltb r n) (ltb→lt r n) (nltb→le r n) (λ m. rows_at n r k m l)
  where
    go : (t : Bool) → (T t → r < n) → (T (not t) → n ≤ r) → (r < n → get_or (even_rows n) (r * r + k) 0 ≡ get_or (pascal_row (2 * r)) k 0)
        → get_or (even_rows n ++ pascal_row (2 * n)) (r * r + k) 0 ≡ get_or (pascal_row (2 * r)) k 0
    go true f g before = get_or-append (even_rows n) (pascal_row (2 * n)) 0 (r * r + k) (omega (arith, rows-length n, mul-le-mul (f tt) (f tt))) ∙ before (f tt)
    go false f g before = let e : r ≡ n = omega (arith, g tt) in rw (e, sym (rows-length n)) (get_or-append-add (even_rows n) (pascal_row (2 * n)) k 0)

-- an entry is at most the sum, and a row sums to a power of 2
entry-le : (xs : List ℕ) (k : ℕ) → get_or xs k 0 ≤ sum xs
unfolding sum
entry-le [] k = omega arith
entry-le (x ∷ xs) zero = omega arith
entry-le (x ∷ xs) (suc k) = omega (arith, entry-le xs k)

pub choose-le : (r k : ℕ) → r ≤ 15 → choose (2 * r) k ≤ 2 ^ 30
unfolding choose
choose-le r k h = le_trans (entry-le (pascal_row (2 * r)) k) (rw (row-sum (2 * r)) (pow_mono {i = 2 * r} {j = 30} (omega arith)))
