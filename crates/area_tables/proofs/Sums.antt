-- Sums of rasters, by rows and columns. Assumes nothing.
use Prim.Native.Nat.{ℕ, zero, suc, ◌+◌}
use native.Mathlib.Nat.{add-suc, add-zero}
use native.Mathlib.Numerals.{add-one}
use native.Mathlib.Omega.{arith}
use mathlib.Core.Path.{◌≡◌, refl}
use Rattle.integers.specs.Sum.{sum}
use Rattle.lists.specs.Tabulate.{tabulate, raster}
use Rattle.lists.proofs.Tabulate.{tabulate-add}
use Rattle.lists.proofs.Sums.{sum_append}

module _ (f : ℕ → ℕ → ℕ) where
  -- the first x columns and y rows
  abbrev pub total : ℕ → ℕ → ℕ
  total x y = sum (raster f x y)

  pub total-none : (x : ℕ) → total x 0 ≡ 0
  unfolding raster sum
  total-none x = refl

  -- one row more
  pub total-row : (x y : ℕ) → total x (y + 1) ≡ total x y + sum (tabulate (λ u. f u y) x)
  unfolding raster
  total-row x y = rw add-one (sum_append (raster f x y) (tabulate (λ u. f u y) x))

  -- a row's sum, in two parts
  row-parts : (a m y : ℕ) → sum (tabulate (λ u. f u y) (a + m)) ≡ sum (tabulate (λ u. f u y) a) + sum (tabulate (λ i. f (a + i) y) m)
  row-parts a m y = rw (tabulate-add (λ u. f u y) a m) (sum_append _ _)

  -- the sum over a window of m columns and n rows that starts at column a, row b, with the totals at its four corners
  pub window-total : (a b m n : ℕ) → sum (raster (λ i j. f (a + i) (b + j)) m n) + total a (b + n) + total (a + m) b ≡ total (a + m) (b + n) + total a b
  unfolding raster sum
  window-total a b m zero = rw add-zero (omega arith)
  window-total a b m (suc n) =
      rw (add-suc b n)
      (omega (
        arith,
        window-total a b m n,
        sum_append (raster (λ i j. f (a + i) (b + j)) m n) (tabulate (λ i. f (a + i) (b + n)) m),
        sum_append (raster f a (b + n)) (tabulate (λ u. f u (b + n)) a),
        sum_append (raster f (a + m) (b + n)) (tabulate (λ u. f u (b + n)) (a + m)),
        row-parts a m (b + n),
      ))
