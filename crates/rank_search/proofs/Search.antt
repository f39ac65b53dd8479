-- A result among levels that are halved: at least the lowest of them, and below the first that is past them. Assumes nothing.
use Prim.Native.Nat.{ℕ, ◌+◌, ◌-◌, ◌*◌, ◌≤◌, ◌<◌}
use native.Mathlib.Nat.{le_trans, lt_of_not-le}
use native.Mathlib.Omega.{arith}
use mathlib.Core.Path.{◌≡◌, refl, sym, ap, ◌∙◌}
use mathlib.Core.Bool.{Bool, true, false, not, cond}
use mathlib.Core.List.{List, ◌++◌}
use lib.Dec.{T, ltb, ltb→lt, nltb→le}
use lib.ListN.{length, get_or, take, drop, replicate, take-append-drop}
use lib.Seq.{length-take-le}
use Rattle.lists.specs.Count.{at_most}
use Rattle.lists.specs.Tabulate.{tabulate}
use Rattle.lists.proofs.Tabulate.{tabulate_ext, tabulate-get_or, tabulate_const, filled_at, filled_behind}
use Rattle.lists.proofs.Raster.{length-raster}
use Rattle.model.specs.Rank.{smallest}
use Rattle.model.specs.Sound.{Bytes}
use Rattle.model_laws.proofs.Rank.{smallest_iff}
use Rattle.rank_search.specs.WindowAt.{window_at}
use Rattle.rank_search.specs.Halving.{halved}
use Rattle.rank_search.proofs.Counts.{raster-counted}

-- the p-th smallest of xs is one of so many levels from low on
pub record Among (p : ℕ) (xs : List ℕ) (levels low : ℕ) : Type 0 where
  pub least : low ≤ smallest p xs
  pub most : smallest p xs < low + levels
  pub bytes : low + levels ≤ 256

module _ (p : ℕ) (xs : List ℕ) (hp : 1 ≤ p) (hq : p ≤ length xs) where
  -- all levels, where enough samples are bytes
  pub among_all : p ≤ at_most 255 xs → Among p xs 256 0
  among_all h = record { least = omega arith; most = omega (arith, (smallest_iff p 255 xs hp hq).1 h); bytes = omega arith }

  -- one half of them
  among_half : (levels half low : ℕ) → 1 ≤ half → half + half ≤ levels → Among p xs levels low → Among p xs (levels - half) (halved p half xs low)
  unfolding halved
  among_half levels half low a b m = go (ltb (at_most (low + (half - 1)) xs) p) (ltb→lt _ p) (nltb→le _ p)
    where
      go : (t : Bool) → (T t → at_most (low + (half - 1)) xs < p) → (T (not t) → p ≤ at_most (low + (half - 1)) xs) → Among p xs (levels - half) (cond t (low + half) low)
      go true h k =
          let above : low + (half - 1) < smallest p xs = lt_of_not-le (λ q. absurd (omega (arith, h tt, (smallest_iff p (low + (half - 1)) xs hp hq).0 q))) in
          record { least = omega (arith, above, a); most = omega (arith, m.most, b); bytes = omega (arith, m.bytes, b) }
      go false h k =
          let below = (smallest_iff p (low + (half - 1)) xs hp hq).1 (k tt) in
          record { least = m.least; most = omega (arith, below, a, b); bytes = omega (arith, m.bytes) }

-- ---- all columns of a row: xs u is the window of column u, low what their levels begin at

module _ (p w : ℕ) (xs : ℕ → List ℕ) where
  -- one halving, by the counts at the trial levels
  pub halved-row : (half : ℕ) (low seen d m : List ℕ) → seen ≡ tabulate (λ u. at_most (get_or low u 0 + (half - 1)) (xs u)) w ++ drop w d
      → m ≡ tabulate (λ u. cond (ltb (get_or seen u 0) p) (get_or low u 0 + half) (get_or low u 0)) w ++ drop w low
      → m ≡ tabulate (λ u. halved p half (xs u) (get_or low u 0)) w ++ drop w low
  unfolding halved
  halved-row half low seen d m es em = em ∙ ap (λ (l : List ℕ). l ++ drop w low) (tabulate_ext _ _ w (λ u b. rw (filled_at _ w d seen 0 u es b)))

  -- what it leaves: half of the levels of each column, and what lies behind the columns
  pub halved_left : (levels half : ℕ) (low m : List ℕ) → 1 ≤ p → ((u : ℕ) → p ≤ length (xs u)) → 1 ≤ half → half + half ≤ levels
      → m ≡ tabulate (λ u. halved p half (xs u) (get_or low u 0)) w ++ drop w low → ((u : ℕ) → u < w → Among p (xs u) levels (get_or low u 0))
      → (drop w m ≡ drop w low) × ((u : ℕ) → u < w → Among p (xs u) (levels - half) (get_or m u 0))
  halved_left levels half low m hp hq a b e h = (filled_behind _ w low m e, λ u k. rw (filled_at _ w low m 0 u e k) (among_half p (xs u) hp (hq u) levels half (get_or low u 0) a b (h u k)))

  -- one level is left for each
  pub found-row : (low : List ℕ) → w ≤ length low → ((u : ℕ) → u < w → Among p (xs u) 1 (get_or low u 0)) → low ≡ tabulate (λ u. smallest p (xs u)) w ++ drop w low
  found-row low h m =
      sym (take-append-drop w low) ∙ ap (λ (l : List ℕ). l ++ drop w low)
      (sym (tabulate-get_or low 0 w h) ∙ tabulate_ext _ _ w (λ u b. omega (arith, (m u b).least, (m u b).most)))

-- the first w of a buffer set to 0
pub zeros_filled : (w : ℕ) (d z : List ℕ) → w ≤ length d → z ≡ replicate (length (take w d)) 0 → z ++ drop w d ≡ tabulate (λ _. 0) w ++ drop w d
zeros_filled w d z h e = rw (e, length-take-le w d h, tabulate_const {A = ℕ} 0 w) refl

-- a window of n rows has p samples, and as many of them at most 255
module _ (rows : List ℕ) (w r n p u : ℕ) (h : p ≤ n * (2 * r + 1)) where
  pub window_enough : p ≤ length (window_at rows w r n u)
  unfolding window_at
  window_enough = rw (length-raster (λ i j. get_or rows (15 - r + j * (w + 30) + (u + i)) 0) (2 * r + 1) n) h

  pub window_bytes : Bytes rows → p ≤ at_most 255 (window_at rows w r n u)
  unfolding window_at
  window_bytes b = le_trans h (raster-counted (λ i j. get_or rows (15 - r + j * (w + 30) + (u + i)) 0) (2 * r + 1) n (λ i j. b (15 - r + j * (w + 30) + (u + i))))
