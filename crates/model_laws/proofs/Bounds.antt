-- How large T and the sums of a weighted stage can be, at the limits that a recipe keeps: 1 to 31 taps each way, gains of at most 4. Assumes nothing.
use Prim.Native.Nat.{ℕ, ◌+◌, ◌*◌, ◌^◌, ◌≤◌, ◌<◌}
use native.Mathlib.Nat.{mul-le-mul, le_of_mul-le-mul_left}
use native.Mathlib.Omega.{arith}
use mathlib.Core.List.{List, [], ◌∷◌, map}
use lib.ListN.{length}
use lib.IntN.{ℤ, pos, nat_abs}
use Rattle.integers.specs.Divide.{ceil_div}
use Rattle.integers.specs.Sum.{sum}
use Rattle.integers.proofs.Divide.{ceil_least, ceil_mono}
use Rattle.integers.proofs.Near.{near-magnitude}
use Rattle.lists.specs.Count.{count}
use Rattle.model.specs.Border.{Border}
use Rattle.model.specs.Kernel.{Tap, Kernel, weighted_sum, magnitude}
use Rattle.model.specs.Apportion.{rounded, rounded_taps, share, apportion}
use Rattle.model.specs.Weighted.{row_value}
use Rattle.model.specs.Stage.{weighted, Stage, stage}
use Rattle.model.specs.Tolerance.{scaled_gain, weighted_growth, growth, after_stage, tolerance_from, tolerance}
use Rattle.model_laws.proofs.Apportion.{rounded-le}
use Rattle.model_laws.proofs.Weighted.{near-share, gain_law, abs_weighted_sum, abs_row}

-- at most 31 taps, and a gain of at most c
pub record Limited (c : ℕ) (K : Kernel) : Type 0 where
  pub divisor : 0 < K.divisor
  pub taps : length K.taps ≤ 31
  pub gain : magnitude K.taps ≤ c * K.divisor

pub gain_limited : (c : ℕ) (K : Kernel) → Limited c K → scaled_gain K ≤ 65536 * c
unfolding scaled_gain
gain_limited c K l = ceil_least (65536 * magnitude K.taps) K.divisor (65536 * c) l.divisor (omega (arith, l.gain))

rounded_limited : (c : ℕ) (K : Kernel) → Limited c K → rounded_taps K ≤ 31
rounded_limited c K l = omega (arith, rounded-le K, l.taps)

-- ---- T of any stages

-- at most 255 levels
pub tolerance-le : (ts : List Stage) → tolerance ts ≤ 16711680
unfolding tolerance tolerance_from after_stage
tolerance-le ts = from ts 0 (omega arith)
  where
    from : (ts : List Stage) (T : ℕ) → T ≤ 16711680 → tolerance_from T ts ≤ 16711680
    from [] T h = h
    from (t ∷ ts) T h = from ts (after_stage T t) (omega arith)

-- ---- T of one weighted stage

pub growth_mono : {g1 g2 n m T h1 h2 n' m' T' : ℕ} → g1 ≤ h1 → g2 ≤ h2 → n ≤ n' → m ≤ m' → T ≤ T' → weighted_growth g1 g2 n m T ≤ weighted_growth h1 h2 n' m' T'
unfolding weighted_growth
growth_mono {g1} {g2} {n} {m} {T} {h1} {h2} {n'} {m'} {T'} h k a b l =
    omega (
      arith,
      ceil_mono (2 ^ 32) (omega arith) (mul-le-mul (mul-le-mul h k) l),
      ceil_mono 65536 (omega arith) (mul-le-mul k (rows n n' a)),
      ceil_mono 65536 (omega arith) (mul-le-mul b (columns a)),
    )
  where
    rows : (x y : ℕ) → x ≤ y → 255 * x + 512 ≤ 255 * y + 512
    rows x y l = omega arith

    columns : n ≤ n' → 255 * g1 + 255 * n + 512 ≤ 255 * h1 + 255 * n' + 512
    columns l = omega arith

module _ (b : Border) (k : ℕ) (across down : Kernel) where
  tolerance_limited : (c : ℕ) → Limited c across → Limited c down → tolerance (stage b k (weighted across down) ∷ []) ≤ weighted_growth (65536 * c) (65536 * c) 31 31 0
  unfolding tolerance tolerance_from after_stage growth stage
  tolerance_limited c o q = omega (arith, growth_mono {T = 0} {T' = 0} (gain_limited c across o) (gain_limited c down q) (rounded_limited c across o) (rounded_limited c down q) (omega arith))

  -- neither gain passes 1
  pub tolerance_gain_1 : Limited 1 across → Limited 1 down → tolerance (stage b k (weighted across down) ∷ []) ≤ 49094
  unfolding weighted_growth ceil_div
  tolerance_gain_1 o q = tolerance_limited 1 o q

  -- neither passes 4
  pub tolerance_gain_4 : Limited 4 across → Limited 4 down → tolerance (stage b k (weighted across down) ∷ []) ≤ 98060
  unfolding weighted_growth ceil_div
  tolerance_gain_4 o q = tolerance_limited 4 o q

-- ---- machine numbers

magnitude_shares : (K : Kernel) (ts : List Tap) → 0 < K.divisor → K.divisor * magnitude (map (share K) ts) ≤ 65536 * magnitude ts + count (rounded K.divisor) ts * K.divisor
unfolding magnitude sum count
magnitude_shares K [] h = omega arith
magnitude_shares K (t ∷ ts) h = omega (arith, near-magnitude (share K t).weight t.weight (near-share K t h), magnitude_shares K ts h)

-- the weights in 65,536ths: |A| adds up to at most g + n
pub magnitude-apportion : (K : Kernel) → 0 < K.divisor → magnitude (apportion K) ≤ scaled_gain K + rounded_taps K
unfolding apportion rounded_taps
magnitude-apportion K h = le_of_mul-le-mul_left {k = K.divisor} (omega (arith, magnitude_shares K K.taps h, gain_law K h)) h

module _ (K : Kernel) (l : Limited 4 K) where
  pub shares_limited : magnitude (apportion K) ≤ 262175
  shares_limited = omega (arith, magnitude-apportion K l.divisor, gain_limited 4 K l, rounded_limited 4 K l)

  -- a row's sum fits i32
  pub row_sum_limited : (f : ℤ → ℕ) → ((i : ℤ) → f i ≤ 255) → nat_abs (weighted_sum (apportion K) (λ i. pos (f i))) ≤ 66854625
  row_sum_limited f b = omega (arith, abs_weighted_sum (apportion K) (λ i. pos (f i)) b, shares_limited)

  -- a row value fits i32
  pub row_limited : (f : ℤ → ℕ) → ((i : ℤ) → f i ≤ 255) → nat_abs (row_value (apportion K) f) ≤ 65288
  row_limited f b = omega (arith, abs_row K f l.divisor b, gain_limited 4 K l, rounded_limited 4 K l)

  -- a column's sum of row values fits i64
  pub column_sum_limited : (h : ℤ → ℤ) → ((j : ℤ) → nat_abs (h j) ≤ 65288) → nat_abs (weighted_sum (apportion K) h) ≤ 17116881400
  column_sum_limited h b = omega (arith, abs_weighted_sum (apportion K) h b, shares_limited)
