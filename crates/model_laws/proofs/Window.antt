-- Windows of two neighbourhoods whose samples are pairwise close. Assumes nothing.
use Prim.Native.Nat.{ℕ, ◌+◌, ◌*◌, ◌≤◌, ◌<◌}
use native.Mathlib.Nat.{mul-le-mul}
use native.Mathlib.Omega.{arith}
use mathlib.Core.Path.{◌≡◌, ◌∙◌}
use mathlib.Core.List.{List}
use lib.ListN.{length}
use lib.IntN.{ℤ, pos, ◌-ℤ◌}
use Rattle.integers.specs.Sum.{sum}
use Rattle.lists.proofs.Raster.{length-raster}
use Rattle.lists.proofs.Pairs.{Pairs, none, more, pairs_raster}
use Rattle.model.specs.Plane.{Neighbourhood}
use Rattle.model.specs.Window.{area, window}
use Rattle.model.specs.Within.{distance, Within}

pub length-window : (r s : ℕ) (f : Neighbourhood) → length (window r s f) ≡ area r s
unfolding window area
length-window r s f = length-raster (λ i j. f (pos i -ℤ pos r) (pos j -ℤ pos s)) (2 * r + 1) (2 * s + 1) ∙ omega arith

pub area-pos : (r s : ℕ) → 0 < area r s
unfolding area
area-pos r s = omega arith

-- smaller radii, smaller windows
pub area-le : (r s a b : ℕ) → r ≤ a → s ≤ b → area r s ≤ (2 * a + 1) * (2 * b + 1)
unfolding area
area-le r s a b h k =
    let across : 2 * r + 1 ≤ 2 * a + 1 = omega arith in
    let down : 2 * s + 1 ≤ 2 * b + 1 = omega arith in
    mul-le-mul across down

pub pairs_window : {R : ℕ → ℕ → Type 0} (r s : ℕ) (f g : Neighbourhood) → ((i j : ℤ) → R (f i j) (g i j)) → Pairs R (window r s f) (window r s g)
unfolding window
pairs_window r s f g h = pairs_raster _ _ (2 * r + 1) (2 * s + 1) (λ u v. h (pos u -ℤ pos r) (pos v -ℤ pos s))

-- 65,536 |N y - x| ≤ e, of two natural numbers
pub record Apart (N e y x : ℕ) : Type 0 where
  pub le : 65536 * N * y ≤ 65536 * x + e
  pub ge : 65536 * x ≤ 65536 * N * y + e

pub apart_of_within : (T N y x : ℕ) → Within T N y x → Apart N (T * N) y x
unfolding Within distance
apart_of_within T N y x w = omega (arith, w)

pub apart-sum : {N e : ℕ} {ys xs : List ℕ} → Pairs (Apart N e) ys xs → Apart N (length ys * e) (sum ys) (sum xs)
unfolding sum
apart-sum none = omega arith
apart-sum (more r p) = let q = apart-sum p in omega arith

pub sum-le : {M : ℕ} {ys xs : List ℕ} → Pairs (λ y x. y ≤ M) ys xs → sum ys ≤ length ys * M
unfolding sum
sum-le none = omega arith
sum-le (more r p) = let q = sum-le p in omega arith
