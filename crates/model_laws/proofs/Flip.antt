-- Stages to which left and right are alike give the flipped plane for the flipped plane, under every border and one after another (request 2026-06). Assumes nothing.
use Prim.Native.Nat.{ℕ, ◌+◌, ◌*◌, ◌-◌, ◌≤◌, ◌<◌}
use native.Mathlib.Nat.{lt_of_not-le}
use native.Mathlib.Omega.{arith}
use native.Mathlib.Decide.{dec_le}
use mathlib.Core.Path.{◌≡◌, refl, sym, ap, ◌∙◌, fun_ext}
use mathlib.Core.List.{List, [], ◌∷◌}
use mathlib.Core.Option.{Option, none, some}
use lib.Dec.{T}
use lib.IntN.{ℤ, pos, negsuc, neg_ℤ, ◌+ℤ◌, ◌-ℤ◌}
use borrow.Author.Tests.{lt-ltb, le-ltb}
use Rattle.integers.specs.Divide.{modulo}
use Rattle.integers.proofs.Divide.{divided, divided_unique}
use Rattle.integers.proofs.Parts.{parts_ext, add_parts, sub_parts, neg-parts}
use Rattle.lists.specs.Tabulate.{raster}
use Rattle.lists.proofs.Raster.{raster_ext, get_or-raster}
use Rattle.model.specs.Border.{Border, constant, nearest, mirror, wrap, inside, closest, supply}
use Rattle.model.specs.Plane.{Plane, plane_of, pick, around}
use Rattle.model.specs.Kernel.{Kernel, Rising}
use Rattle.model.specs.Apportion.{apportion}
use Rattle.model.specs.Symmetry.{symmetric, unsplit}
use Rattle.model.specs.Stage.{Stage, weighted, stage, result, stage_plane, written}
use Rattle.model.specs.Flip.{flipped, flipped_samples, LeftRightAlike, AllLeftRightAlike}
use Rattle.model_laws.proofs.Border.{Inside, supply-inside}
use Rattle.model_laws.proofs.Mirror.{difference_over, flipped_of}
use Rattle.model_laws.proofs.Symmetry.{weights-symmetric}
use Rattle.model_laws.proofs.Sides.{left_right_alike}

-- ---- an axis of length n, counted from its other end

unfoldable pub other_end : ℕ → Option ℕ → Option ℕ
other_end n none = none
other_end n (some k) = some (n - 1 - k)

-- x counted from there: inside; beyond the end; before the start
from_inside : (n k : ℕ) → k < n → pos (n - 1) -ℤ pos k ≡ pos (n - 1 - k)
from_inside n k h = parts_ext _ _ (omega (arith, h, (sub_parts (pos (n - 1)) (pos k)).sum))

from_beyond : (n k : ℕ) → 0 < n → n ≤ k → pos (n - 1) -ℤ pos k ≡ negsuc (k - n)
from_beyond n k g h = parts_ext _ _ (omega (arith, g, h, (sub_parts (pos (n - 1)) (pos k)).sum))

from_before : (n k : ℕ) → 0 < n → pos (n - 1) -ℤ negsuc k ≡ pos (n + k)
from_before n k g = parts_ext _ _ (omega (arith, g, (sub_parts (pos (n - 1)) (negsuc k)).sum))

constant_flipped : (n : ℕ) (x : ℤ) → 0 < n → inside n (pos (n - 1) -ℤ x) ≡ other_end n (inside n x)
unfolding inside other_end
constant_flipped n (pos k) g = go (dec_le n k)
  where
    go : Dec (n ≤ k) → inside n (pos (n - 1) -ℤ pos k) ≡ other_end n (inside n (pos k))
    go (yes h) = rw (from_beyond n k g h, le-ltb k n h)
    go (no h) = let l = lt_of_not-le h in rw (from_inside n k l, lt-ltb k n l, lt-ltb (n - 1 - k) n (omega (arith, l)))
constant_flipped n (negsuc k) g = ap (inside n) (from_before n k g) ∙ rw (le-ltb (n + k) n (omega arith))

nearest-flipped : (n : ℕ) (x : ℤ) → 0 < n → closest n (pos (n - 1) -ℤ x) ≡ n - 1 - closest n x
unfolding closest
nearest-flipped n (pos k) g = go (dec_le n k)
  where
    go : Dec (n ≤ k) → closest n (pos (n - 1) -ℤ pos k) ≡ n - 1 - closest n (pos k)
    go (yes h) = rw (from_beyond n k g h) (omega (arith, h))
    go (no h) = let l = lt_of_not-le h in rw (from_inside n k l) (omega (arith, l))
nearest-flipped n (negsuc k) g = ap (closest n) (from_before n k g) ∙ omega (arith, g)

wrap_flipped : (n : ℕ) (x : ℤ) → 0 < n → modulo (pos (n - 1) -ℤ x) n ≡ n - 1 - modulo x n
wrap_flipped n x g =
    let over = divided x n g in
    (divided_unique (divided (pos (n - 1) -ℤ x) n g) (difference_over over (n - 1) 0 (n - 1 - modulo x n) (omega (arith, g)) (omega (arith, over.small)))).1

-- the frame rule does not tell the two ends apart
pub supply-flipped : (b : Border) (n : ℕ) (x : ℤ) → 0 < n → supply b n (pos (n - 1) -ℤ x) ≡ other_end n (supply b n x)
unfolding supply other_end
supply-flipped constant n x g = constant_flipped n x g
supply-flipped nearest n x g = ap some (nearest-flipped n x g)
supply-flipped mirror n x g = flipped_of n g (divided x (2 * n) (omega (arith, g)))
supply-flipped wrap n x g = ap some (wrap_flipped n x g)

-- ---- neighbourhoods

pick-flipped : (value W : ℕ) (f : Plane) (a d : Option ℕ) → pick value (flipped W f) a d ≡ pick value f (other_end W a) d
unfolding pick flipped other_end
pick-flipped value W f none d = refl
pick-flipped value W f (some u) none = refl
pick-flipped value W f (some u) (some v) = refl

module _ (b : Border) (value W H : ℕ) (f : Plane) (u v : ℕ) (hu : u < W) where
  across_flipped : (i : ℤ) → pos (W - 1) -ℤ (pos u +ℤ i) ≡ pos (W - 1 - u) +ℤ neg_ℤ i
  across_flipped i =
      parts_ext _ _ (omega (arith, hu, (sub_parts (pos (W - 1)) (pos u +ℤ i)).sum, (add_parts (pos u) i).sum, (add_parts (pos (W - 1 - u)) (neg_ℤ i)).sum, neg-parts i))

  around-flipped : around b value W H (flipped W f) u v ≡ (λ i j. around b value W H f (W - 1 - u) v (neg_ℤ i) j)
  unfolding around
  around-flipped =
      fun_ext
      (λ i.
      fun_ext
      (λ j.
      pick-flipped value W f (supply b W (pos u +ℤ i)) (supply b H (pos v +ℤ j))
      ∙ ap (λ a. pick value f a (supply b H (pos v +ℤ j))) (sym (supply-flipped b W (pos u +ℤ i) (omega (arith, hu))) ∙ ap (supply b W) (across_flipped i))))

-- only samples inside the frame are picked
pick-inside : (value W H : ℕ) (f g : Plane) → ((u v : ℕ) → u < W → v < H → f u v ≡ g u v) → (a d : Option ℕ) → Inside W a → Inside H d → pick value f a d ≡ pick value g a d
unfolding pick
pick-inside value W H f g e none d i j = refl
pick-inside value W H f g e (some u) none i j = refl
pick-inside value W H f g e (some u) (some v) i j = e u v i j

module _ (W H : ℕ) (t : Stage) where
  stage-inside : (f g : Plane) → ((u v : ℕ) → u < W → v < H → f u v ≡ g u v) → (u v : ℕ) → u < W → v < H → stage_plane W H t f u v ≡ stage_plane W H t g u v
  unfolding stage_plane around
  stage-inside f g e u v hu hv =
      ap (result t.work)
      (fun_ext
      (λ i.
      fun_ext
      (λ j. pick-inside t.value W H f g e _ _ (supply-inside t.border W (pos u +ℤ i) (omega (arith, hu))) (supply-inside t.border H (pos v +ℤ j) (omega (arith, hv))))))

  -- a stage of a flipped plane
  stage-flipped : LeftRightAlike t.work → (f : Plane) (u v : ℕ) → u < W → stage_plane W H t (flipped W f) u v ≡ flipped W (stage_plane W H t f) u v
  unfolding stage_plane flipped
  stage-flipped alike f u v hu = ap (result t.work) (around-flipped t.border t.value W H f u v hu) ∙ left_right_alike t.work alike _

-- ---- samples

plane_of_raster : (g : Plane) (W H u v : ℕ) → u < W → v < H → plane_of W (raster g W H) u v ≡ g u v
unfolding plane_of
plane_of_raster g W H u v hu hv = get_or-raster g W H u v 0 hu hv

flipped_of_raster : (g : Plane) (W H u v : ℕ) → u < W → v < H → flipped W (plane_of W (raster g W H)) u v ≡ flipped W g u v
unfolding flipped
flipped_of_raster g W H u v hu hv = plane_of_raster g W H (W - 1 - u) v (omega (arith, hu)) hv

one-flipped : (W H : ℕ) (t : Stage) → LeftRightAlike t.work → (samples : List ℕ)
    → raster (stage_plane W H t (plane_of W (flipped_samples W H samples))) W H ≡ flipped_samples W H (raster (stage_plane W H t (plane_of W samples)) W H)
unfolding flipped_samples
one-flipped W H t alike samples =
    let f = plane_of W samples in
    raster_ext _ _ W H
    (λ u v hu hv.
    stage-inside W H t _ (flipped W f) (plane_of_raster (flipped W f) W H) u v hu hv
    ∙ stage-flipped W H t alike f u v hu
    ∙ sym (flipped_of_raster (stage_plane W H t f) W H u v hu hv))

-- THE FLIPPED STILL GIVES THE FLIPPED RESULT, through any list of stages to which left and right are alike
pub flip_written : (W H : ℕ) (ts : List Stage) → AllLeftRightAlike ts → (samples : List ℕ) → written W H ts (flipped_samples W H samples) ≡ flipped_samples W H (written W H ts samples)
unfolding written
flip_written W H [] alike samples = refl
flip_written W H (t ∷ ts) alike samples = ap (written W H ts) (one-flipped W H t alike.0 samples) ∙ flip_written W H ts alike.1 _

-- one weighted stage, under any border
module _ (across down : Kernel) (rising : Rising across.taps) where
  pub flip_weighted : T (symmetric (apportion across)) → (W H : ℕ) (b : Border) (value : ℕ) (samples : List ℕ)
      → written W H (stage b value (weighted across down) ∷ []) (flipped_samples W H samples) ≡ flipped_samples W H (written W H (stage b value (weighted across down) ∷ []) samples)
  unfolding stage
  flip_weighted even W H b value samples = flip_written W H (stage b value (weighted across down) ∷ []) ((rising, even), tt) samples

  -- symmetric taps that are dealt without splitting a pair make such a stage
  pub symmetric_taps_alike : T (symmetric across.taps) → T (unsplit across) → LeftRightAlike (weighted across down)
  symmetric_taps_alike taps whole = (rising, weights-symmetric across rising taps whole)
