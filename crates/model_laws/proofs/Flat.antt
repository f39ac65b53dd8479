-- Weights that sum to 1: a flat plane comes out of a weighted stage as it went in, with every border but a differing constant. Assumes nothing.
use Prim.Native.Nat.{ℕ, ◌+◌, ◌*◌, ◌/◌, ◌≤◌, ◌<◌}
use native.Mathlib.Nat.{div-eq_of_lt-le, mul_comm, one-le-pow}
use native.Mathlib.Omega.{arith}
use mathlib.Core.Path.{◌≡◌, refl, sym, ap, ◌∙◌, fun_ext}
use mathlib.Core.List.{List, [], ◌∷◌}
use mathlib.Core.Option.{Option, none, some}
use lib.ListN.{replicate, get_or-replicate}
use lib.IntN.{ℤ, pos, ◌+ℤ◌, ◌*ℤ◌, zero-*ℤ}
use Rattle.integers.specs.Divide.{clamp}
use Rattle.integers.specs.Sum.{sumℤ}
use Rattle.integers.proofs.Parts.{add-mul}
use Rattle.lists.proofs.Raster.{place_fits, raster_ext, raster_const}
use Rattle.model.specs.Border.{Border, constant, nearest, mirror, wrap, supply}
use Rattle.model.specs.Plane.{Plane, plane_of, pick, around}
use Rattle.model.specs.Kernel.{Tap, Kernel, kernel, weighted_sum, total, Rising}
use Rattle.model.specs.Binomial.{binomial}
use Rattle.model.specs.Apportion.{wanted_total, apportion}
use Rattle.model.specs.Weighted.{row_value, weighted_result}
use Rattle.model.specs.Stage.{weighted, stage, result, stage_plane, written}
use Rattle.model_laws.proofs.Border.{Inside, supply-inside}
use Rattle.model_laws.proofs.Apportion.{apportion-total}
use Rattle.model_laws.proofs.Binomial.{binomial_rising, binomial-total}

-- a kernel whose fractions add up to 1
pub record SumsToOne (K : Kernel) : Type 0 where
  pub divisor : 0 < K.divisor
  pub rising : Rising K.taps
  pub sum : total K.taps ≡ pos K.divisor

sum_flat : (ts : List Tap) (c : ℤ) → weighted_sum ts (λ i. c) ≡ total ts *ℤ c
unfolding weighted_sum total sumℤ
sum_flat [] c = sym (zero-*ℤ c)
sum_flat (t ∷ ts) c = rw (sum_flat ts c) (sym (add-mul t.weight (total ts) c))

shares_total : (K : Kernel) → SumsToOne K → total (apportion K) ≡ pos 65536
unfolding wanted_total
shares_total K o = rw (apportion-total K o.divisor o.rising, o.sum) (ap pos (div-eq_of_lt-le (2 * K.divisor) (omega (arith, o.divisor)) (omega (arith, o.divisor))))

-- on a neighbourhood that is flat
result_flat : (across down : Kernel) (c : ℕ) → SumsToOne across → SumsToOne down → c ≤ 255 → weighted_result across down (λ i j. c) ≡ c
unfolding weighted_result row_value clamp
result_flat across down c o q h =
    rw (sum_flat (apportion across) (pos c), shares_total across o, row, sum_flat (apportion down) (pos (64 * c)), shares_total down q) (omega arith)
  where
    row : (65536 * c + 512) / 1024 ≡ 64 * c
    row = omega arith

-- ---- the frame rule on a flat plane

constant_only : (b : Border) (n : ℕ) (x : ℤ) → supply b n x ≡ none → b ≡ constant
unfolding supply
constant_only constant n x e = refl
constant_only nearest n x e = cc
constant_only mirror n x e = cc
constant_only wrap n x e = cc

pick_flat : (k c W H : ℕ) (f : Plane) → ((u v : ℕ) → u < W → v < H → f u v ≡ c) → (a d : Option ℕ) → Inside W a → Inside H d → (a ≡ none → k ≡ c) → (d ≡ none → k ≡ c) → pick k f a d ≡ c
unfolding pick
pick_flat k c W H f h none d i j p q = p refl
pick_flat k c W H f h (some u) none i j p q = q refl
pick_flat k c W H f h (some u) (some v) i j p q = h u v i j

-- a flat plane of c; a border value, where it counts, of c
module _ (W H c k : ℕ) (b : Border) (hW : 0 < W) (hH : 0 < H) (same : b ≡ constant → k ≡ c) where
  flat : (u v : ℕ) → u < W → v < H → plane_of W (replicate (W * H) c) u v ≡ c
  unfolding plane_of
  flat u v hu hv = get_or-replicate (W * H) (v * W + u) c 0 (omega (arith, place_fits u v W H hu hv))

  around_flat : (u v : ℕ) → around b k W H (plane_of W (replicate (W * H) c)) u v ≡ (λ i j. c)
  unfolding around
  around_flat u v =
      fun_ext
      (λ i.
      fun_ext
      (λ j.
      pick_flat k c W H (plane_of W (replicate (W * H) c)) flat (supply b W (pos u +ℤ i)) (supply b H (pos v +ℤ j)) (supply-inside b W (pos u +ℤ i) hW) (supply-inside b H (pos v +ℤ j) hH)
      (λ e. same (constant_only b W (pos u +ℤ i) e)) (λ e. same (constant_only b H (pos v +ℤ j) e))))

  pub flat_stays : (across down : Kernel) → SumsToOne across → SumsToOne down → c ≤ 255
      → written W H (stage b k (weighted across down) ∷ []) (replicate (W * H) c) ≡ replicate (W * H) c
  unfolding written stage stage_plane result
  flat_stays across down o q h =
      raster_ext _ (λ u v. c) W H (λ u v hu hv. rw (around_flat u v) (result_flat across down c o q h))
      ∙ raster_const c W H ∙ ap (λ (n : ℕ). replicate n c) (mul_comm H W)

pub binomial-one : (r : ℕ) → SumsToOne (binomial r)
unfolding binomial kernel
binomial-one r = record { divisor = one-le-pow (2 * r) 2 (omega arith); rising = binomial_rising r; sum = binomial-total r }
