-- Sums over rasters that lie one behind the other, one raster more at a time. Assumes nothing.
use Prim.Native.Nat.{ℕ, zero, suc, ◌+◌, ◌*◌, ◌-◌, ◌≤◌, ◌<◌}
use native.Mathlib.Nat.{mul_comm}
use native.Mathlib.Omega.{arith}
use mathlib.Core.Path.{◌≡◌, refl, sym, ap, ◌∙◌}
use mathlib.Core.List.{List, ◌++◌}
use lib.ListN.{length, get_or, take, drop, replicate, take-append-drop}
use lib.Seq.{get_or-drop}
use Rattle.lists.specs.Tabulate.{tabulate}
use Rattle.lists.proofs.Part.{tail_mid}
use Rattle.lists.proofs.Raster.{row_fits}
use Rattle.lists.proofs.Sums.{sum-none, sum_more, sum_bound}
use Rattle.lists.proofs.Tabulate.{tabulate_ext, tabulate-get_or, refill}
use Rattle.raster_means.specs.Sums.{place_sum}

-- no raster yet, in sums that are 0
pub sums_none : (rasters : List ℕ) (size at n : ℕ) (sums : List ℕ) → n ≤ length sums → ((u : ℕ) → get_or sums u 0 ≡ 0)
    → sums ≡ tabulate (λ u. place_sum rasters size 0 (at + u)) n ++ drop n sums
unfolding place_sum
sums_none rasters size at n sums h z =
    sym (take-append-drop n sums) ∙ ap (λ (l : List ℕ). l ++ drop n sums) (sym (tabulate-get_or sums 0 n h) ∙ tabulate_ext _ _ n (λ u b. z u ∙ sym (sum-none _)))

-- one raster more, added to the sums from the part that was lent
pub sums_more : (rasters : List ℕ) (size at n i : ℕ) (first sums after : List ℕ) → sums ≡ tabulate (λ u. place_sum rasters size i (at + u)) n ++ drop n first
    → after ≡ tabulate (λ u. get_or sums u 0 + get_or (take (length rasters - (i * size + at)) (drop (i * size + at) rasters)) u 0) n ++ drop n sums
    → after ≡ tabulate (λ u. place_sum rasters size (i + 1) (at + u)) n ++ drop n first
unfolding place_sum
sums_more rasters size at n i first sums after e f = refill _ _ _ n first sums after 0 e f (λ u b s. rw s (step u))
  where
    step : (u : ℕ) → place_sum rasters size i (at + u) + get_or (take (length rasters - (i * size + at)) (drop (i * size + at) rasters)) u 0 ≡ place_sum rasters size (i + 1) (at + u)
    step u =
        let e : i * size + at + u ≡ i * size + (at + u) = omega arith in
        rw (tail_mid (i * size + at) rasters, get_or-drop (i * size + at) rasters u 0, e) (sym (sum_more _ i))

-- samples are bytes
pub sum-le : (rasters : List ℕ) (size k j : ℕ) → ((i : ℕ) → get_or rasters i 0 ≤ 255) → place_sum rasters size k j ≤ 255 * k
unfolding place_sum
sum-le rasters size k j h = rw (mul_comm 255 k) (sum_bound _ k 255 (λ i b. h _))

-- sums that begin at 0
pub zeros : (n u : ℕ) → ◌≡◌ {A = ℕ} (get_or (replicate n 0) u 0) 0
zeros zero u = refl
zeros (suc n) zero = refl
zeros (suc n) (suc u) = zeros n u

-- the part of raster i is inside
pub part-inside : (at n : ℕ) {i k size long : ℕ} → i < k → at + n ≤ size → k * size ≤ long → i * size + at + n ≤ long
part-inside at n {i} {k} {size} b h l = omega (arith, row_fits i k size b, h, l)
