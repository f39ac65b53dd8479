-- ROUNDED TAPS (request 2026-08): T goes by the taps that are rounded, and is never above T by all taps, as it was before; what it is where none is rounded. Assumes nothing.
use Prim.Native.Nat.{ℕ, zero, suc, ◌+◌, ◌*◌, ◌^◌, ◌≤◌, ◌<◌, min}
use native.Mathlib.Nat.{le_refl, mul-le-mul_left, lt_of_mul-lt-mul_left}
use native.Mathlib.Omega.{arith}
use mathlib.Core.Path.{◌≡◌, refl, ap}
use mathlib.Core.Bool.{cond}
use mathlib.Core.List.{List, [], ◌∷◌, map, Memᴰ}
use lib.ListN.{length}
use lib.Dec.{T, ltb→lt}
use lib.IntN.{ℤ, pos, ◌+ℤ◌, ◌*ℤ◌}
use Rattle.integers.specs.Divide.{floor_div, ceil_div}
use Rattle.integers.proofs.Parts.{pos_part, neg_part, parts_ext, add_parts, mul-parts}
use Rattle.integers.proofs.Divide.{divided}
use Rattle.integers.specs.Sum.{sum}
use Rattle.lists.specs.Tabulate.{tabulate}
use Rattle.lists.proofs.Members.{count-some}
use Rattle.model.specs.Border.{nearest}
use Rattle.model.specs.Kernel.{Tap, tap, Kernel, kernel, magnitude}
use Rattle.model.specs.Binomial.{pair_sums, pascal_row, choose, binomial}
use Rattle.model.specs.Apportion.{quotient, remainder, rounded, rounded_taps, gets_unit, share}
use Rattle.model.specs.Stage.{Work, weighted, box, rank, outline, Stage, stage}
use Rattle.model.specs.Tolerance.{scaled_gain, weighted_growth, growth, after_stage, tolerance_from, tolerance}
use Rattle.model_laws.proofs.Apportion.{rounded-le}
use Rattle.model_laws.proofs.Weighted.{near-share}
use Rattle.model_laws.proofs.Bounds.{growth_mono}

-- ---- weights that fit

-- no tap of the kernel leaves a remainder
abbrev pub Fits : Kernel → Type 0
Fits K = (t : Tap) → Memᴰ t K.taps → remainder K.divisor t ≡ 0

-- so none is rounded
pub fits-none : (K : Kernel) → Fits K → rounded_taps K ≡ 0
unfolding rounded rounded_taps
fits-none K f = go (rounded_taps K) refl
  where
    go : (n : ℕ) → rounded_taps K ≡ n → n ≡ 0
    go zero e = refl
    go (suc n) e = let s = count-some (rounded K.divisor) K.taps (omega (arith, e)) in absurd (omega (arith, ltb→lt 0 (remainder K.divisor s.0) s.2, f s.0 s.1))

module _ (K : Kernel) (t : Tap) (h : 0 < K.divisor) where
  -- a weight that fits is kept: A/65,536 is a/D
  pub fits_kept : remainder K.divisor t ≡ 0 → pos K.divisor *ℤ (share K t).weight ≡ pos 65536 *ℤ t.weight
  unfolding rounded
  fits_kept e =
      parts_ext _ _
      (omega (arith, rw e at (near-share K t h), mul-parts (pos K.divisor) (share K t).weight, mul-parts (pos 65536) t.weight))

  -- and one of a rounded tap never is
  pub rounded_differs : T (rounded K.divisor t) → (pos K.divisor *ℤ (share K t).weight ≡ pos 65536 *ℤ t.weight) → ⊥
  unfolding rounded remainder share tap quotient
  rounded_differs r e = omega (arith, ltb→lt 0 (remainder K.divisor t) r, owed, mul-le-mul_left K.divisor none)
    where
      z : ℤ
      z = pos 65536 *ℤ t.weight

      q : ℤ
      q = floor_div z K.divisor

      unit : ℕ
      unit = cond (gets_unit K t) 1 0

      owed : K.divisor * unit ≡ remainder K.divisor t
      owed = omega (arith, divided z K.divisor h, mul-parts (pos K.divisor) (q +ℤ pos unit), ap (λ (n : ℕ). K.divisor * n) (add_parts q (pos unit)).sum, ap pos_part e, ap neg_part e)

      none : unit ≤ 0
      none = let l : unit < 1 = lt_of_mul-lt-mul_left K.divisor (omega (arith, owed, divided z K.divisor h)) in omega (arith, l)

-- T after a stage of weights that all fit, both ways, before it is cut: nothing is left but what the samples bring, the row value's rounding and the last one
pub growth-fits : (across down : Kernel) (T : ℕ) → Fits across → Fits down
    → growth (weighted across down) T ≡ ceil_div (scaled_gain across * scaled_gain down * T) (2 ^ 32) + ceil_div (scaled_gain down * 512) 65536 + 32768
unfolding growth weighted_growth ceil_div
growth-fits across down T f g = rw (fits-none across f, fits-none down g) (omega arith)

-- ---- T is never above what it was

-- T as it was before, by all taps: only to compare with
growth_by_taps : Work → ℕ → ℕ
growth_by_taps (weighted across down) T = weighted_growth (scaled_gain across) (scaled_gain down) (length across.taps) (length down.taps) T
growth_by_taps (box r s) T = growth (box r s) T
growth_by_taps (rank r s p) T = growth (rank r s p) T
growth_by_taps outline T = growth outline T

by_taps_from : ℕ → List Stage → ℕ
by_taps_from T [] = T
by_taps_from T (t ∷ ts) = by_taps_from (min (growth_by_taps t.work T) 16711680) ts

pub tolerance_by_taps : List Stage → ℕ
tolerance_by_taps ts = by_taps_from 0 ts

-- it gives the T that 'Bench stills' had: of binomial 1,0, of binomial 1,1, and of that and a box
bench-before : map (λ ws. tolerance_by_taps (map (λ w. stage nearest 0 w) ws)) ((weighted (binomial 1) (binomial 0) ∷ []) ∷ (weighted (binomial 1) (binomial 1) ∷ []) ∷ (weighted (binomial 1) (binomial 1) ∷ box 1 1 ∷ []) ∷ [])
    ≡ 34301 ∷ 34811 ∷ 67579 ∷ []
unfolding tolerance_by_taps by_taps_from growth_by_taps growth weighted_growth scaled_gain ceil_div magnitude sum tabulate pair_sums pascal_row choose binomial kernel tap stage
bench-before = refl

growth_above : (w : Work) {T T' : ℕ} → T ≤ T' → growth w T ≤ growth_by_taps w T'
unfolding growth growth_by_taps
growth_above (weighted across down) h = growth_mono (le_refl (scaled_gain across)) (le_refl (scaled_gain down)) (rounded-le across) (rounded-le down) h
growth_above (box r s) h = omega arith
growth_above (rank r s p) h = h
growth_above outline h = omega arith

pub never_above : (ts : List Stage) → tolerance ts ≤ tolerance_by_taps ts
unfolding tolerance tolerance_from tolerance_by_taps by_taps_from after_stage
never_above ts = from ts 0 0 (omega arith)
  where
    from : (ts : List Stage) (T T' : ℕ) → T ≤ T' → tolerance_from T ts ≤ by_taps_from T' ts
    from [] T T' h = h
    from (t ∷ ts) T T' h = from ts (after_stage T t) (min (growth_by_taps t.work T') 16711680) (omega (arith, growth_above t.work h))
