-- Weighted work keeps to the tolerance's formula. Assumes nothing.
-- The error has four parts: what the samples bring, the horizontal weights and the row value's rounding, the vertical weights, and the last rounding.
use Prim.Native.Nat.{ℕ, ◌+◌, ◌*◌, ◌/◌, ◌^◌, ◌≤◌, ◌<◌}
use native.Mathlib.Nat.{mul-le-mul, mul-le-mul_left, mul-le-mul_right, le_of_mul-le-mul_left, mul-div-le}
use native.Mathlib.Omega.{arith}
use mathlib.Core.Path.{◌≡◌, refl, ap}
use mathlib.Core.Bool.{cond}
use mathlib.Core.List.{List, [], ◌∷◌, map}
use lib.IntN.{ℤ, pos, nat_abs, ◌+ℤ◌, ◌*ℤ◌, *ℤ-zero}
use Rattle.integers.specs.Divide.{floor_div, ceil_div, clamp}
use Rattle.integers.specs.Sum.{sum}
use Rattle.integers.proofs.Parts.{add_parts, mul-parts}
use Rattle.integers.proofs.Divide.{divided, ceil_law}
use Rattle.integers.proofs.Near.{Near, near_trans, near_mono, near-zero, near_scale, near_rescale, near_add, near_mul, near_mul_bounded, near-round, near_of_abs, abs_of_near, near-clamp}
use Rattle.lists.specs.Count.{count}
use Rattle.model.specs.Plane.{Neighbourhood}
use Rattle.model.specs.Kernel.{Tap, tap, Kernel, weighted_sum, magnitude}
use Rattle.model.specs.Apportion.{quotient, remainder, rounded, rounded_taps, gets_unit, share, apportion}
use Rattle.model.specs.Weighted.{row_value, weighted_result}
use Rattle.model.specs.Tolerance.{scaled_gain, weighted_growth}
use Rattle.model_laws.proofs.Apportion.{remainder-rounded, unit_rounded}

-- ---- weighted sums

-- values that are close, with the same taps
pub near-weighted_sum : (ts : List Tap) (f g : ℤ → ℤ) {k l e : ℕ} → ((i : ℤ) → Near k (f i) l (g i) e) → Near k (weighted_sum ts f) l (weighted_sum ts g) (magnitude ts * e)
unfolding weighted_sum magnitude sum
near-weighted_sum [] f g {k} {l} h = near_mono (near-zero k l) (omega arith)
near-weighted_sum (t ∷ ts) f g h = near_mono (near_add (near_mul t.weight (h t.offset)) (near-weighted_sum ts f g h)) (omega arith)

sum_of_zeros : (ts : List Tap) → weighted_sum ts (λ i. pos 0) ≡ pos 0
unfolding weighted_sum
sum_of_zeros [] = refl
sum_of_zeros (t ∷ ts) = rw (sum_of_zeros ts, *ℤ-zero)

pub abs_weighted_sum : (ts : List Tap) (f : ℤ → ℤ) {M : ℕ} → ((i : ℤ) → nat_abs (f i) ≤ M) → nat_abs (weighted_sum ts f) ≤ magnitude ts * M
abs_weighted_sum ts f {M} h =
    let p : Near 1 (weighted_sum ts f) 1 (pos 0) (magnitude ts * M) = rw (sum_of_zeros ts) at (near-weighted_sum ts f (λ i. pos 0) (λ i. near_of_abs (f i) (h i))) in
    omega (arith, abs_of_near (weighted_sum ts f) p)

-- ---- a weight in 65,536ths is off by at most one, and not at all where the tap is not rounded

pub near-share : (K : Kernel) (t : Tap) → 0 < K.divisor → Near K.divisor (share K t).weight 65536 t.weight (K.divisor * cond (rounded K.divisor t) 1 0)
unfolding share tap quotient remainder
near-share K t h =
    let q = floor_div (pos 65536 *ℤ t.weight) K.divisor in
    let b : ℕ = cond (gets_unit K t) 1 0 in
    omega (
      arith,
      (divided (pos 65536 *ℤ t.weight) K.divisor h).whole,
      mul-parts (pos 65536) t.weight,
      ap (λ (n : ℕ). K.divisor * n) (add_parts q (pos b)).sum,
      mul-le-mul_left K.divisor (unit_rounded K t h),
      remainder-rounded K.divisor h t,
    )

module _ (K : Kernel) (h : 0 < K.divisor) (f : ℤ → ℤ) {M : ℕ} (b : (i : ℤ) → nat_abs (f i) ≤ M) where
  near_shares : (ts : List Tap) → Near K.divisor (weighted_sum (map (share K) ts) f) 65536 (weighted_sum ts f) (count (rounded K.divisor) ts * (K.divisor * M))
  unfolding weighted_sum count share tap
  near_shares [] = near_mono (near-zero K.divisor 65536) (omega arith)
  near_shares (t ∷ ts) = near_mono (near_add (near_mul_bounded (f t.offset) (near-share K t h) (b t.offset)) (near_shares ts)) (omega arith)

  pub near-apportion : Near K.divisor (weighted_sum (apportion K) f) 65536 (weighted_sum K.taps f) (rounded_taps K * (K.divisor * M))
  unfolding apportion rounded_taps
  near-apportion = near_shares K.taps

pub gain_law : (K : Kernel) → 0 < K.divisor → 65536 * magnitude K.taps ≤ K.divisor * scaled_gain K
unfolding scaled_gain
gain_law K h = ceil_law (65536 * magnitude K.taps) K.divisor h

-- ---- the row value

module _ (K : Kernel) (f : ℤ → ℕ) (h : 0 < K.divisor) (b : (i : ℤ) → f i ≤ 255) where
  pub near-row : Near (K.divisor * 1024) (row_value (apportion K) f) 65536 (weighted_sum K.taps (λ i. pos (f i))) (K.divisor * (255 * rounded_taps K + 512))
  unfolding row_value
  near-row =
      near_mono
      (near_trans
      (near_rescale K.divisor {k' = K.divisor * 1024} {l' = K.divisor} {e' = K.divisor * 512} (near-round (weighted_sum (apportion K) (λ i. pos (f i))) 512 (omega arith)) refl (omega arith) (omega arith))
      (near-apportion K h (λ i. pos (f i)) b))
      (omega arith)

  -- 1,024 |h| ≤ 255 g1 + 255 n + 512
  pub abs_row : 1024 * nat_abs (row_value (apportion K) f) ≤ 255 * scaled_gain K + 255 * rounded_taps K + 512
  abs_row = le_of_mul-le-mul_left {k = K.divisor} (omega (arith, whole, gain_law K h)) h
    where
      R : ℤ
      R = weighted_sum K.taps (λ i. pos (f i))

      small : nat_abs R ≤ magnitude K.taps * 255
      small = abs_weighted_sum K.taps (λ i. pos (f i)) b

      whole : K.divisor * 1024 * nat_abs (row_value (apportion K) f) ≤ K.divisor * (255 * rounded_taps K + 512) + 65536 * (magnitude K.taps * 255)
      whole =
          abs_of_near {l = 65536} (row_value (apportion K) f)
          (near_trans near-row (near_rescale 65536 {k' = 65536} {l' = 65536} {e' = 65536 * (magnitude K.taps * 255)} (near_of_abs R small) refl refl (omega arith)))

-- y over x: 65,536 |N y - x| ≤ T N
abbrev pub Close : ℕ → ℕ → ℤ → ℤ → Type 0
Close T N y x = Near (65536 * N) y 65536 x (T * N)

module _ (across down : Kernel) (N T : ℕ) (hD : 0 < across.divisor) (hE : 0 < down.divisor) where
  D : ℕ
  D = across.divisor

  E : ℕ
  E = down.divisor

  g1 : ℕ
  g1 = scaled_gain across

  g2 : ℕ
  g2 = scaled_gain down

  n : ℕ
  n = rounded_taps across

  m : ℕ
  m = rounded_taps down

  a1 : ℕ
  a1 = magnitude across.taps

  a2 : ℕ
  a2 = magnitude down.taps

  gain1 : 65536 * a1 ≤ D * g1
  unfolding a1 D g1
  gain1 = gain_law across hD

  gain2 : 65536 * a2 ≤ E * g2
  unfolding a2 E g2
  gain2 = gain_law down hE

  -- each part of the error against its quotient of the formula
  samples-part : 65536 * (a2 * (a1 * (T * N))) ≤ N * (D * E) * 65536 * ceil_div (g1 * g2 * T) (2 ^ 32)
  samples-part = omega (arith, mul-le-mul_right (T * N) (mul-le-mul gain2 gain1), mul-le-mul_left (N * (D * E)) (ceil_law (g1 * g2 * T) (2 ^ 32) (omega arith)))

  rows-part : N * 65536 * (a2 * (D * (255 * n + 512))) ≤ N * (D * E) * 65536 * ceil_div (g2 * (255 * n + 512)) 65536
  rows-part = omega (arith, mul-le-mul_left (N * D * (255 * n + 512)) gain2, mul-le-mul_left (N * (D * E)) (ceil_law (g2 * (255 * n + 512)) 65536 (omega arith)))

  columns_part : (M : ℕ) → 1024 * M ≤ 255 * g1 + 255 * n + 512 → 1024 * N * D * (m * (E * M)) ≤ N * (D * E) * 65536 * ceil_div (m * (255 * g1 + 255 * n + 512)) 65536
  columns_part M b = omega (arith, mul-le-mul_left (N * (D * E) * m) b, mul-le-mul_left (N * (D * E)) (ceil_law (m * (255 * g1 + 255 * n + 512)) 65536 (omega arith)))

  module _ (f x : Neighbourhood) (b : (i j : ℤ) → f i j ≤ 255) (c : (i j : ℤ) → Close T N (pos (f i j)) (pos (x i j))) where
    -- row j: as written, by the weights as given, and exactly
    rows : ℤ → ℤ
    rows j = row_value (apportion across) (λ i. f i j)

    given : ℤ → ℤ
    given j = weighted_sum across.taps (λ i. pos (f i j))

    exactly : ℤ → ℤ
    exactly j = weighted_sum across.taps (λ i. pos (x i j))

    columns : ℤ
    columns = weighted_sum (apportion down) rows

    top : ℕ
    top = (255 * g1 + 255 * n + 512) / 1024

    top_law : 1024 * top ≤ 255 * g1 + 255 * n + 512
    unfolding top
    top_law = mul-div-le (255 * g1 + 255 * n + 512) 1024

    rows_top : (j : ℤ) → nat_abs (rows j) ≤ top
    unfolding rows top g1 n
    rows_top j = omega (arith, abs_row across (λ i. f i j) hD (λ i. b i j))

    last : Near (1024 * N * (D * E) * 2 ^ 22) (floor_div (columns +ℤ pos (2 ^ 21)) (2 ^ 22)) (1024 * N * D * E) columns (N * (D * E) * 2 ^ 31)
    last = near_rescale (1024 * N * (D * E)) (near-round columns (2 ^ 21) (omega arith)) refl (omega arith) (omega arith)

    vertical : Near (1024 * N * D * E) columns (1024 * N * D * 65536) (weighted_sum down.taps rows) (1024 * N * D * (m * (E * top)))
    unfolding columns E m
    vertical = near_scale (1024 * N * D) (near-apportion down hE rows rows_top)

    horizontal : Near (1024 * N * D * 65536) (weighted_sum down.taps rows) (65536 * (65536 * N)) (weighted_sum down.taps given) (N * 65536 * (a2 * (D * (255 * n + 512))))
    unfolding rows given D n a2
    horizontal = near_rescale (N * 65536) (near-weighted_sum down.taps rows given (λ j. near-row across (λ i. f i j) hD (λ i. b i j))) (omega arith) (omega arith) (omega arith)

    brought : Near (65536 * (65536 * N)) (weighted_sum down.taps given) (65536 * 65536) (weighted_sum down.taps exactly) (65536 * (a2 * (a1 * (T * N))))
    unfolding given exactly a1 a2
    brought = near_scale 65536 (near-weighted_sum down.taps given exactly (λ j. near-weighted_sum across.taps (λ i. pos (f i j)) (λ i. pos (x i j)) (λ i. c i j)))

    whole : Near (1024 * N * (D * E) * 2 ^ 22) (floor_div (columns +ℤ pos (2 ^ 21)) (2 ^ 22)) (65536 * 65536) (weighted_sum down.taps exactly) (65536 * (weighted_growth g1 g2 n m T * (N * (D * E))))
    unfolding weighted_growth
    whole = near_mono (near_trans last (near_trans vertical (near_trans horizontal brought))) (omega (arith, samples-part, rows-part, columns_part top top_law))

    close : Close (weighted_growth g1 g2 n m T) (N * (D * E)) (floor_div (columns +ℤ pos (2 ^ 21)) (2 ^ 22)) (weighted_sum down.taps exactly)
    close = omega (arith, whole)

    pub weighted_close : Close (weighted_growth (scaled_gain across) (scaled_gain down) (rounded_taps across) (rounded_taps down) T) (N * (across.divisor * down.divisor)) (pos (weighted_result across down f))
        (pos (clamp (255 * (N * (across.divisor * down.divisor))) (weighted_sum down.taps (λ j. weighted_sum across.taps (λ i. pos (x i j))))))
    unfolding weighted_result columns exactly rows g1 g2 n m D E
    weighted_close = near-clamp 65536 (N * (across.divisor * down.divisor)) 255 _ _ close
