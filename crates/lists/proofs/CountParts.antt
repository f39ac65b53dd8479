-- Counts of lists in parts: appended, all alike, from the first on, and by columns. Assumes nothing.
use Prim.Native.Nat.{ℕ, zero, suc, ◌+◌, ◌-◌, ◌*◌, ◌≤◌}
use native.Mathlib.Numerals.{add-one}
use native.Mathlib.Omega.{arith}
use mathlib.Core.Path.{◌≡◌, refl}
use mathlib.Core.Bool.{Bool, cond}
use mathlib.Core.List.{List, [], ◌∷◌, ◌++◌, append-nil}
use lib.ListN.{replicate}
use Rattle.lists.specs.Tabulate.{tabulate, raster}
use Rattle.lists.specs.Count.{count}
use Rattle.lists.proofs.Tabulate.{tabulate-add}
use Rattle.lists.proofs.Sums.{count-more, count_none}

module _ {A : Type 0} (p : A → Bool) where
  pub count_append : (xs ys : List A) → count p (xs ++ ys) ≡ count p xs + count p ys
  unfolding count
  count_append [] ys = omega arith
  count_append (x ∷ xs) ys = omega (arith, count_append xs ys)

  pub count_alike : (n : ℕ) (x : A) → count p (replicate n x) ≡ n * cond (p x) 1 0
  unfolding count
  count_alike zero x = omega arith
  count_alike (suc n) x = omega (arith, count_alike n x)

  -- a front of f 0, f 1, .. has no more
  pub count_front : (f : ℕ → A) (i n : ℕ) → i ≤ n → count p (tabulate f i) ≤ count p (tabulate f n)
  count_front f i n h =
      let split : i + (n - i) ≡ n = omega arith in
      rw (← split, tabulate-add f i (n - i), count_append (tabulate f i) (tabulate (λ k. f (i + k)) (n - i))) (omega arith)

  -- rows of no columns
  pub count_no_columns : (g : ℕ → ℕ → A) (h : ℕ) → count p (raster g 0 h) ≡ 0
  unfolding raster tabulate count
  count_no_columns g zero = refl
  count_no_columns g (suc h) = rw (append-nil, count_no_columns g h) refl

  -- one column more
  pub count-column : (g : ℕ → ℕ → A) (n h : ℕ) → count p (raster g (suc n) h) ≡ count p (raster g n h) + count p (tabulate (g n) h)
  unfolding raster count
  count-column g n zero = omega (arith, count_none p (g n))
  count-column g n (suc h) =
      rw (count_append (raster g (suc n) h) (tabulate (λ u. g u h) (suc n)), count_append (raster g n h) (tabulate (λ u. g u h) n), count-column g n h, ← add-one n, ← add-one h, count-more p (λ u. g u h) n, count-more p (g n) h)
      (omega arith)
