-- Box work keeps to the tolerance's formula. Assumes nothing.
use Prim.Native.Nat.{ℕ, ◌+◌, ◌*◌, ◌≤◌}
use native.Mathlib.Nat.{mul-le-mul_left, div-add-mod, mod-lt, le_of_suc-le-suc, div-lt_iff_lt-mul}
use native.Mathlib.Omega.{arith}
use mathlib.Core.Path.{ap}
use lib.ListN.{length}
use lib.IntN.{ℤ, pos}
use Rattle.integers.specs.Divide.{clamp}
use Rattle.integers.specs.Sum.{sum}
use Rattle.integers.proofs.Divide.{clamp-inside}
use Rattle.integers.proofs.Near.{near-clamp}
use Rattle.model.specs.Plane.{Neighbourhood}
use Rattle.model.specs.Window.{area, window}
use Rattle.model.specs.Box.{box_result}
use Rattle.model_laws.proofs.Weighted.{Close}
use Rattle.model_laws.proofs.Window.{length-window, area-pos, pairs_window, Apart, apart-sum, sum-le}

pub box-le : (r s : ℕ) (f : Neighbourhood) → ((i j : ℤ) → f i j ≤ 255) → box_result r s f ≤ 255
unfolding box_result
box-le r s f b =
    le_of_suc-le-suc
    ((div-lt_iff_lt-mul {k = 2 * area r s} {x = 2 * sum (window r s f) + area r s} {y = 256} (omega (arith, area-pos r s))).1
    (omega (arith, sum-le (pairs_window r s f f b), ap (λ (n : ℕ). n * 255) (length-window r s f), area-pos r s)))

module _ (r s N T : ℕ) (f x : Neighbourhood) (b : (i j : ℤ) → f i j ≤ 255) (c : (i j : ℤ) → Close T N (pos (f i j)) (pos (x i j))) where
  doubled : ℕ
  doubled = 2 * sum (window r s f) + area r s

  sums : Apart N (length (window r s f) * (T * N)) (sum (window r s f)) (sum (window r s x))
  sums = apart-sum (pairs_window r s f x (λ i j. omega (arith, c i j)))

  close : Close (T + 32768) (N * area r s) (pos (box_result r s f)) (pos (sum (window r s x)))
  unfolding box_result doubled
  close =
      omega (
        arith,
        sums,
        ap (λ (n : ℕ). n * (T * N)) (length-window r s f),
        ap (λ (n : ℕ). N * n) (div-add-mod doubled (2 * area r s)),
        mul-le-mul_left N (mod-lt doubled {m = 2 * area r s} (omega (arith, area-pos r s))),
      )

  pub box_close : Close (T + 32768) (N * area r s) (pos (box_result r s f)) (pos (clamp (255 * (N * area r s)) (pos (sum (window r s x)))))
  box_close = rw (clamp-inside (box-le r s f b)) at (near-clamp 65536 (N * area r s) 255 (pos (box_result r s f)) (pos (sum (window r s x))) close)
