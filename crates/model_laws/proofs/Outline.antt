-- Outline work keeps to the tolerance's formula. Assumes nothing.
-- Six samples enter a response, each with its own error; a magnitude moves no further than its response, and a maximum no further than what it is taken of.
use Prim.Native.Nat.{ℕ, ◌*◌, ◌≤◌, max}
use native.Mathlib.Nat.{mul-le-mul_right}
use native.Mathlib.Omega.{arith}
use mathlib.Core.Path.{◌≡◌, refl}
use mathlib.Core.List.{List, [], ◌∷◌, map}
use lib.IntN.{ℤ, pos, nat_abs}
use Rattle.integers.specs.Divide.{clamp}
use Rattle.integers.specs.Sum.{sum}
use Rattle.integers.proofs.Near.{Near, near_mono, near-zero, near_add, near_mul, near_abs, near-max, near-clamp}
use Rattle.lists.proofs.Pairs.{Pairs, none, more}
use Rattle.model.specs.Plane.{Neighbourhood}
use Rattle.model.specs.Window.{window}
use Rattle.model.specs.Outline.{outline_kernels, response, largest, edge_strength, outline_result}
use Rattle.model_laws.proofs.Weighted.{Close}
use Rattle.model_laws.proofs.Window.{pairs_window}

-- the sum of the weights' magnitudes
size : List ℤ → ℕ
size k = sum (map nat_abs k)

near-response : {k l e : ℕ} {ys xs : List ℕ} (c : List ℤ) → Pairs (λ y x. Near k (pos y) l (pos x) e) ys xs
    → Near k (response c ys) l (response c xs) (size c * e)
unfolding response size sum
near-response {k} {l} [] p = near_mono (near-zero k l) (omega arith)
near-response {k} {l} (a ∷ c) none = near_mono (near-zero k l) (omega arith)
near-response (a ∷ c) (more r p) = near_mono (near_add (near_mul a r) (near-response c p)) (omega arith)

-- the largest magnitude among the responses of some kernels
near_strength : {k l e : ℕ} {ys xs : List ℕ} (cs : List (List ℤ)) → Pairs (λ y x. Near k (pos y) l (pos x) e) ys xs
    → Near k (pos (largest (map (λ c. nat_abs (response c ys)) cs))) l (pos (largest (map (λ c. nat_abs (response c xs)) cs))) (largest (map size cs) * e)
unfolding largest
near_strength {k} {l} [] p = near_mono (near-zero k l) (omega arith)
near_strength {e = e} {ys} {xs} (c ∷ cs) p =
    let most = max (size c) (largest (map size cs)) in
    let this : size c ≤ most = omega arith in
    let rest : largest (map size cs) ≤ most = omega arith in
    near-max _ _ _ _
    (near_mono (near_abs (response c ys) (response c xs) (near-response c p)) (mul-le-mul_right e this))
    (near_mono (near_strength cs p) (mul-le-mul_right e rest))

pub outline-le : (f : Neighbourhood) → outline_result f ≤ 255
unfolding outline_result
outline-le f = omega arith

module _ (N T : ℕ) (f x : Neighbourhood) (c : (i j : ℤ) → Close T N (pos (f i j)) (pos (x i j))) where
  -- six weights of each kernel are not 0
  sizes : largest (map size outline_kernels) ≡ 6
  unfolding largest size sum outline_kernels
  sizes = refl

  close : Close (6 * T) N (pos (edge_strength (window 1 1 f))) (pos (edge_strength (window 1 1 x)))
  unfolding edge_strength
  close = near_mono (rw sizes at (near_strength outline_kernels (pairs_window 1 1 f x c))) (omega arith)

  pub outline_close : Close (6 * T) N (pos (outline_result f)) (pos (clamp (255 * N) (pos (edge_strength (window 1 1 x)))))
  unfolding outline_result clamp
  outline_close = near-clamp 65536 N 255 (pos (edge_strength (window 1 1 f))) (pos (edge_strength (window 1 1 x))) close
