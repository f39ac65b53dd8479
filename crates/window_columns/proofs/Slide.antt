-- Columns side by side: one column more, and one place on. Assumes nothing.
use Prim.Native.Nat.{ℕ, zero, suc, ◌+◌, ◌-◌, ◌*◌, ◌≤◌, ◌<◌}
use native.Mathlib.Nat.{le_trans, mul-le-mul}
use native.Mathlib.Numerals.{add-one}
use native.Mathlib.Omega.{arith}
use mathlib.Core.Path.{◌≡◌, refl, ap, ◌∙◌}
use mathlib.Core.Bool.{Bool}
use mathlib.Core.List.{List, []}
use lib.ListN.{length, get_or, length-append}
use lib.Dec.{eqb, ltb}
use Rattle.lists.specs.Count.{count}
use Rattle.lists.proofs.Count.{count-length}
use Rattle.histograms.specs.Histogram.{at_level, below_level, counted, histogram, total}
use Rattle.lists.proofs.CountParts.{count_append}
use Rattle.histograms.proofs.Counts.{get_or-counted, get_or-histogram, length-counted, histogram_then, histogram_by, histogram-le}
use Rattle.histograms.proofs.Below.{total-below}
use Rattle.window_columns.specs.Columns.{side_by_side}

module _ (column : ℕ → List ℕ) where
  -- the first column apart from the others
  first_apart : (p : ℕ → Bool) (x n : ℕ) → count p (side_by_side column x (suc n)) ≡ count p (column x) + count p (side_by_side column (x + 1) n)
  unfolding side_by_side count
  first_apart p x zero = let e : x + 0 ≡ x = omega arith in rw e (omega arith)
  first_apart p x (suc n) =
      let e : x + suc n ≡ x + 1 + n = omega arith in
      rw (count_append p (side_by_side column x (suc n)) (column (x + suc n)), count_append p (side_by_side column (x + 1) n) (column (x + 1 + n)), first_apart p x n, e) (omega arith)

  -- one place on: the first column leaves, and the one behind the last enters
  pub slide : (p : ℕ → Bool) (x n : ℕ) → count p (side_by_side column (x + 1) n) + count p (column x) ≡ count p (side_by_side column x n) + count p (column (x + n))
  unfolding side_by_side
  slide p x n = omega (arith, first_apart p x n, count_append p (side_by_side column x n) (column (x + n)))

  -- the first column is among them
  first_le : (p : ℕ → Bool) (x n : ℕ) → 1 ≤ n → count p (column x) ≤ count p (side_by_side column x n)
  first_le p x zero h = absurd (omega arith)
  first_le p x (suc n) h = omega (arith, first_apart p x n)

  length_columns : (d x n : ℕ) → ((z : ℕ) → length (column z) ≡ d) → length (side_by_side column x n) ≡ n * d
  unfolding side_by_side
  length_columns d x zero h = omega arith
  length_columns d x (suc n) h = rw (length-append, length_columns d x n h, h (x + n)) (omega arith)

  -- ---- and their counts

  -- none yet
  pub no_column : (x : ℕ) → histogram [] ≡ histogram (side_by_side column x 0)
  unfolding side_by_side
  no_column x = refl

  -- one column more
  pub column-more : (l m : List ℕ) (x n : ℕ) → l ≡ histogram (side_by_side column x n) → m ≡ counted l (column (x + n)) → m ≡ histogram (side_by_side column x (n + 1))
  unfolding side_by_side
  column-more l m x n e q = rw add-one (histogram_then l m (side_by_side column x n) (column (x + n)) e q)

  -- a window has few samples
  module _ (l : List ℕ) (d x n g : ℕ) (h : (z : ℕ) → length (column z) ≡ d) (k : d ≤ 31) (m : n ≤ 31) (e : l ≡ histogram (side_by_side column x n)) where
    few : length (side_by_side column x n) ≤ 961
    few = rw (length_columns d x n h) (mul-le-mul m k)

    pub count_few : get_or l g 0 ≤ 961
    count_few = le_trans (histogram-le l (side_by_side column x n) g e) few

    pub below_few : g < 256 → total l g ≤ 961
    below_few k = rw (e, total-below (side_by_side column x n) g (omega arith)) (le_trans (count-length (λ y. ltb y g) (side_by_side column x n)) few)

  module _ (l : List ℕ) (x n : ℕ) (e : l ≡ histogram (side_by_side column x n)) where
    -- the first column can leave
    pub can_leave : 1 ≤ n → (g : ℕ) → g < 256 → at_level g (column x) ≤ get_or l g 0
    can_leave h g k = rw (e, get_or-histogram (side_by_side column x n) g k) (first_le (λ y. eqb y g) x n h)

    -- with the first column taken off and the one behind the last counted, the counts are those of the window one place on
    pub next_counts : (c m : List ℕ) → l ≡ counted c (column x) → m ≡ counted c (column (x + n)) → m ≡ histogram (side_by_side column (x + 1) n)
    next_counts c m q r = histogram_by m (side_by_side column (x + 1) n) (rw r (length-counted c (column (x + n)))) at
      where
        at : (g : ℕ) → g < 256 → get_or m g 0 ≡ at_level g (side_by_side column (x + 1) n)
        at g k = omega (arith, ap (λ (a : List ℕ). get_or a g 0) e, ap (λ (a : List ℕ). get_or a g 0) q, ap (λ (a : List ℕ). get_or a g 0) r, get_or-histogram (side_by_side column x n) g k, get_or-counted c (column x) g k, get_or-counted c (column (x + n)) g k, slide (λ y. eqb y g) x n)

    module _ (g below fewer : ℕ) (k : g < 256) (h : 1 ≤ n) (b : below ≡ total l g) (f : fewer ≡ below_level g (column x)) where
      was : below ≡ below_level g (side_by_side column x n)
      was = b ∙ ap (λ (a : List ℕ). total a g) e ∙ total-below (side_by_side column x n) g (omega arith)

      -- the first column's samples below a level are among them
      pub leaving_le : fewer ≤ below
      leaving_le = omega (arith, was, first_le (λ y. ltb y g) x n h)

      -- so many are below it one place on
      pub next_below : (m : List ℕ) (more : ℕ) → m ≡ histogram (side_by_side column (x + 1) n) → more ≡ below_level g (column (x + n)) → below - fewer + more ≡ total m g
      next_below m more r o =
          let will : total m g ≡ below_level g (side_by_side column (x + 1) n) = ap (λ (a : List ℕ). total a g) r ∙ total-below (side_by_side column (x + 1) n) g (omega arith) in
          omega (arith, was, slide (λ y. ltb y g) x n, first_le (λ y. ltb y g) x n h)
