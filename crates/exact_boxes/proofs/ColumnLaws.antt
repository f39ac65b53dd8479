-- The sums of a window's columns: row by row, one row on, and their size. Assumes nothing.
use Prim.Native.Nat.{ℕ, ◌+◌, ◌-◌, ◌*◌, ◌≤◌, ◌<◌}
use native.Mathlib.Nat.{one-mul, add-zero}
use native.Mathlib.Omega.{arith}
use mathlib.Core.Path.{◌≡◌, refl, sym, ap, ◌∙◌}
use mathlib.Core.List.{List, ◌++◌}
use lib.ListN.{length, get_or, drop}
use lib.IntN.{ℤ, pos, negsuc, nat_abs, ◌+ℤ◌, ◌*ℤ◌}
use Rattle.integers.specs.Sum.{sum}
use Rattle.integers.proofs.Parts.{abs_add, abs_mul}
use Rattle.lists.specs.Tabulate.{tabulate}
use Rattle.lists.proofs.Tabulate.{length_filled, tabulate_ext, filled_behind, filled_at, refill}
use Rattle.lists.proofs.Sums.{sum-none, sum_more, sum_bound}
use Rattle.model.specs.Sound.{Bytes}
use Rattle.frame.specs.declared.Frame.{Frame}
use Rattle.frame.specs.Padded.{padded}
use Rattle.frame.proofs.Supplied.{padded-le}
use Rattle.exact_boxes.specs.BoxSums.{column_sum}
use Rattle.exact_boxes.proofs.SumLaws.{exchanged, sumℤ_slide, sumℤ-pos}

-- a buffer is as long after its front was stored
pub still_long : {A : Type 0} (f : ℕ → A) (n : ℕ) (d l : List A) → l ≡ tabulate f n ++ drop n d → n ≤ length d → n ≤ length l
still_long f n d l e h = rw (e, length_filled f n d h) h

-- a front to which a tap's products were added, along a row that was stored
pub tap-at : (n : ℕ) (g : ℕ → ℕ) (weight : ℤ) (d row : List ℕ) (l m : List ℤ) → row ≡ tabulate g n ++ drop n d
    → m ≡ tabulate (λ u. get_or l u (pos 0) +ℤ weight *ℤ pos (get_or row u 0)) n ++ drop n l
    → (x : ℕ) → x < n → get_or m x (pos 0) ≡ get_or l x (pos 0) +ℤ weight *ℤ pos (g x)
tap-at n g weight d row l m er em x b = filled_at _ n l m (pos 0) x em b ∙ rw (filled_at g n d row 0 x er b) refl

module _ (f : Frame) (samples : List ℕ) where
  -- the sum of the k samples from place x, y down
  unfoldable pub rows_sum : ℕ → ℕ → ℕ → ℤ
  rows_sum y k x = pos (sum (tabulate (λ j. padded f samples x (y + j)) k))

  -- no row
  rows_none : (y x : ℕ) → rows_sum y 0 x ≡ pos 0
  unfolding rows_sum
  rows_none y x = ap pos (sum-none _)

  -- one row more
  rows_more : (y k x : ℕ) → rows_sum y k x +ℤ pos 1 *ℤ pos (padded f samples x (y + k)) ≡ rows_sum y (k + 1) x
  unfolding rows_sum
  rows_more y k x = ap pos (omega (arith, sum_more (λ j. padded f samples x (y + j)) k))

  -- the same of a front of sums, which is begun at 0
  pub front_none : (y n : ℕ) (d l : List ℤ) → l ≡ tabulate (λ _. pos 0) n ++ drop n d → l ≡ tabulate (rows_sum y 0) n ++ drop n l
  front_none y n d l e = e ∙ rw (filled_behind _ n d l e) (ap (λ (t : List ℤ). t ++ drop n d) (tabulate_ext _ _ n (λ x _. sym (rows_none y x))))

  -- and to which a row is added
  pub front_more : (y k n : ℕ) (r row : List ℕ) (d l m : List ℤ) → row ≡ tabulate (λ x. padded f samples x (y + k)) n ++ drop n r
      → l ≡ tabulate (rows_sum y k) n ++ drop n d → m ≡ tabulate (λ u. get_or l u (pos 0) +ℤ pos 1 *ℤ pos (get_or row u 0)) n ++ drop n l
      → m ≡ tabulate (rows_sum y (k + 1)) n ++ drop n d
  front_more y k n r row d l m er el em =
      refill (rows_sum y k) (rows_sum y (k + 1)) _ n d l m (pos 0) el em (λ u b e. rw (e, filled_at _ n r row 0 u er b) (rows_more y k u))

  -- one row on, the first sample leaves and the next enters
  rows_next : (y k x : ℕ) → rows_sum y k x +ℤ negsuc 0 *ℤ pos (padded f samples x y) +ℤ pos 1 *ℤ pos (padded f samples x (y + k)) ≡ rows_sum (y + 1) k x
  unfolding rows_sum
  rows_next y k x =
      let slide = rw (sumℤ-pos (λ j. padded f samples x (y + 1 + j)) k, sumℤ-pos (λ j. padded f samples x (y + j)) k) at (sumℤ_slide (λ i. pos (padded f samples x i)) y k) in
      rw (one-mul, one-mul) (exchanged (rows_sum y k x) (rows_sum (y + 1) k x) (pos (padded f samples x y)) (pos (padded f samples x (y + k))) slide)

  -- up to 31 samples, each a byte
  pub rows_small : f.value ≤ 255 → Bytes samples → (y k x : ℕ) → k ≤ 31 → nat_abs (rows_sum y k x) ≤ 7905
  unfolding rows_sum
  rows_small byte bytes y k x h = omega (arith, sum_bound (λ j. padded f samples x (y + j)) k 255 (λ j _. padded-le f samples x (y + j) byte bytes), h)

  module _ (s : ℕ) where
    -- a column of a window, by its rows
    column-rows : (x v : ℕ) → column_sum f samples s x v ≡ rows_sum (15 - s + v) (2 * s + 1) x
    unfolding column_sum rows_sum
    column-rows x v = refl

    -- all rows of the first window
    pub column_first : (x : ℕ) → rows_sum (15 - s) (2 * s + 1) x ≡ column_sum f samples s x 0
    unfolding column_sum rows_sum
    column_first x = rw (add-zero (15 - s)) refl

    module _ (byte : f.value ≤ 255) (bytes : Bytes samples) (x v : ℕ) (h : s ≤ 15) where
      -- a column is small
      pub column_small : nat_abs (column_sum f samples s x v) ≤ 7905
      column_small = rw (column-rows x v) (rows_small byte bytes (15 - s + v) (2 * s + 1) x (omega (arith, h)))

      -- so is what is left of it once its first sample is out
      pub left_small : nat_abs (column_sum f samples s x v +ℤ negsuc 0 *ℤ pos (padded f samples x (15 - s + v))) ≤ 8160
      left_small =
          let p = padded f samples x (15 - s + v) in
          omega (arith, column_small, padded-le f samples x (15 - s + v) byte bytes, abs_add (column_sum f samples s x v) (negsuc 0 *ℤ pos p), abs_mul (negsuc 0) (pos p))

    -- the columns of the windows one row on
    pub column_next : (x v : ℕ) → s ≤ 15
        → column_sum f samples s x v +ℤ negsuc 0 *ℤ pos (padded f samples x (15 - s + v)) +ℤ pos 1 *ℤ pos (padded f samples x (16 + s + v)) ≡ column_sum f samples s x (v + 1)
    column_next x v h = rw (column-rows x v, column-rows x (v + 1)) (rw (enters, next) at (rows_next (15 - s + v) (2 * s + 1) x))
      where
        enters : 15 - s + v + (2 * s + 1) ≡ 16 + s + v
        enters = omega (arith, h)

        next : 15 - s + v + 1 ≡ 15 - s + (v + 1)
        next = omega arith
