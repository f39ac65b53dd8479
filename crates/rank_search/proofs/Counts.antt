-- Counts of samples at most a level, as rows of a window come in. Assumes nothing.
use Prim.Native.Nat.{ℕ, suc, ◌+◌, ◌-◌, ◌*◌, ◌≤◌, ◌<◌}
use native.Mathlib.Nat.{le_refl, add_comm, mul-le-mul}
use native.Mathlib.Numerals.{add-one}
use native.Mathlib.Omega.{arith}
use mathlib.Core.Path.{◌≡◌, sym, ap, ◌∙◌}
use mathlib.Core.Bool.{cond}
use mathlib.Core.List.{List, [], ◌∷◌, ◌++◌}
use lib.Dec.{leb}
use lib.ListN.{length, get_or, take, drop, take-append-drop}
use lib.Seq.{get_or-drop}
use Rattle.lists.specs.Count.{count, at_most}
use Rattle.lists.specs.Tabulate.{tabulate, raster}
use Rattle.lists.proofs.Count.{Bit, one, none, bit_le, count-length}
use Rattle.lists.proofs.Part.{tail_mid}
use Rattle.lists.proofs.Pairs.{pairs_raster, pairs_at}
use Rattle.lists.proofs.Raster.{length-raster}
use Rattle.lists.proofs.Sums.{count-more}
use Rattle.lists.proofs.CountParts.{count_append}
use Rattle.lists.proofs.Tabulate.{length-tabulate, tabulate_ext, tabulate-get_or, filled_at, refill}
use Rattle.model.specs.Sound.{Bytes}
use Rattle.rank_search.specs.WindowAt.{window_at}

-- every byte is at most 255
bytes_counted : (xs : List ℕ) → Bytes xs → length xs ≤ at_most 255 xs
unfolding count
bytes_counted [] b = le_refl 0
bytes_counted (x ∷ xs) b = go (bit_le x 255) (bytes_counted xs (λ i. b (suc i)))
  where
    go : {n : ℕ} → Bit (x ≤ 255) (255 < x) n → length xs ≤ at_most 255 xs → suc (length xs) ≤ n + at_most 255 xs
    go (one l) q = omega arith
    go (none l) q = absurd (omega (arith, b 0))

pub raster-counted : (g : ℕ → ℕ → ℕ) (w h : ℕ) → ((u v : ℕ) → g u v ≤ 255) → h * w ≤ at_most 255 (raster g w h)
raster-counted g w h b = rw (← length-raster g w h) (bytes_counted (raster g w h) (pairs_at 0 0 (omega arith) (pairs_raster {R = λ (y x : ℕ). y ≤ 255} g g w h b)))

-- ---- sample by sample of a row

-- the count of column u, of trial level t u, with i samples of a row more
abbrev pub with_row : List ℕ → (ℕ → ℕ) → List ℕ → ℕ → ℕ → ℕ
with_row seen t row i u = get_or seen u 0 + at_most (t u) (tabulate (λ k. get_or row (u + k) 0) i)

module _ (seen : List ℕ) (t : ℕ → ℕ) (row : List ℕ) where
  pub with_none : (w : ℕ) → w ≤ length seen → seen ≡ tabulate (with_row seen t row 0) w ++ drop w seen
  unfolding count tabulate
  with_none w h = sym (take-append-drop w seen) ∙ ap (λ (l : List ℕ). l ++ drop w seen) (sym (tabulate-get_or seen 0 w h) ∙ tabulate_ext _ _ w (λ u b. omega arith))

  pub with_more : (w i : ℕ) (l m : List ℕ) → l ≡ tabulate (with_row seen t row i) w ++ drop w seen
      → m ≡ tabulate (λ u. get_or l u 0 + cond (leb (get_or (take (length row - i) (drop i row)) u 0) (t u)) 1 0) w ++ drop w l
      → m ≡ tabulate (with_row seen t row (i + 1)) w ++ drop w seen
  with_more w i l m el em =
      refill (with_row seen t row i) (with_row seen t row (i + 1)) _ w seen l m 0 el em
      (λ u b e. rw (e, tail_mid i row, get_or-drop i row u 0, add_comm i u) (omega (arith, count-more (λ x. leb x (t u)) (λ k. get_or row (u + k) 0) i)))

  -- no count is large
  pub with_fits : (w i across : ℕ) (l : List ℕ) → l ≡ tabulate (with_row seen t row i) w ++ drop w seen → i < across → ((u : ℕ) → u < w → get_or seen u 0 + across ≤ 255)
      → (u : ℕ) → u < w → get_or l u 0 < 255
  with_fits w i across l e a h u b =
      rw (filled_at _ w seen l 0 u e b)
      (omega (arith, h u b, a, count-length (λ x. leb x (t u)) (tabulate (λ k. get_or row (u + k) 0) i), length-tabulate (λ k. get_or row (u + k) 0) i))

-- ---- row by row of a window

module _ (rows seen : List ℕ) (t : ℕ → ℕ) (w r : ℕ) where
  -- the count of column u over j rows
  abbrev pub over_rows : ℕ → ℕ → ℕ
  over_rows j u = at_most (t u) (window_at rows w r j u)

  pub over_none : w ≤ length seen → ((u : ℕ) → u < w → get_or seen u 0 ≡ 0) → seen ≡ tabulate (over_rows 0) w ++ drop w seen
  unfolding count raster window_at
  over_none h z = sym (take-append-drop w seen) ∙ ap (λ (l : List ℕ). l ++ drop w seen) (sym (tabulate-get_or seen 0 w h) ∙ tabulate_ext _ _ w z)

  -- the rows from the first sample of row j's windows on
  abbrev rows_from : ℕ → List ℕ
  rows_from j = take (length rows - (15 - r + j * (w + 30))) (drop (15 - r + j * (w + 30)) rows)

  pub over_more : (j : ℕ) (l m : List ℕ) → l ≡ tabulate (over_rows j) w ++ drop w seen
      → m ≡ tabulate (with_row l t (rows_from j) (2 * r + 1)) w ++ drop w l
      → m ≡ tabulate (over_rows (j + 1)) w ++ drop w seen
  unfolding raster window_at
  over_more j l m el em =
      refill (over_rows j) (over_rows (j + 1)) _ w seen l m 0 el em
      (λ u b e. rw (e, row u, add-one j) (sym (count_append (λ x. leb x (t u)) (window_at rows w r j u) (tabulate (λ i. get_or rows (15 - r + j * (w + 30) + (u + i)) 0) (2 * r + 1)))))
    where
      row : (u : ℕ) → tabulate (λ k. get_or (rows_from j) (u + k) 0) (2 * r + 1) ≡ tabulate (λ i. get_or rows (15 - r + j * (w + 30) + (u + i)) 0) (2 * r + 1)
      row u = tabulate_ext _ _ (2 * r + 1) (λ i b. rw (tail_mid (15 - r + j * (w + 30)) rows) (get_or-drop (15 - r + j * (w + 30)) rows (u + i) 0))

  -- at most seven rows of seven samples
  pub over_fits : (j : ℕ) (l : List ℕ) → r ≤ 3 → j ≤ 6 → l ≡ tabulate (over_rows j) w ++ drop w seen → (u : ℕ) → u < w → get_or l u 0 + (2 * r + 1) ≤ 255
  unfolding window_at
  over_fits j l hr hj e u b =
      let seven : 2 * r + 1 ≤ 7 = omega (arith, hr) in
      rw (filled_at _ w seen l 0 u e b)
      (omega (arith, hr, count-length (λ x. leb x (t u)) (window_at rows w r j u), length-raster (λ i k. get_or rows (15 - r + k * (w + 30) + (u + i)) 0) (2 * r + 1) j, mul-le-mul hj seven))
