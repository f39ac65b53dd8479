-- A MOTION IS TRUE OF THE EXACT SAMPLES, where each written sample lies within its tolerance of its exact one. Assumes nothing.
use Prim.Native.Nat.{ℕ, ◌+◌, ◌*◌, ◌≤◌, ◌<◌}
use native.Mathlib.Nat.{mul-le-mul_left, mul-pos, mul-sub}
use native.Mathlib.Omega.{arith}
use mathlib.Core.Path.{◌≡◌, refl}
use mathlib.Core.Bool.{Bool, true, false, cond}
use borrow.Author.Tests.{leb-true, ltb-true}
use Rattle.model.specs.Within.{distance, Within}
use Rattle.model_laws.proofs.Window.{Apart, apart_of_within}
use Rattle.movement.specs.Motion.{moved, still, unsettled, surely_moved, surely_still, motion}
use Rattle.movement.specs.Truth.{exact_difference, TrueOf}

module _ (L T T' y y' : ℕ) where
  moved_means : surely_moved L T T' y y' ≡ true → 65536 * L + (T + T') < 65536 * distance y y'
  unfolding surely_moved
  moved_means e = ltb-true (65536 * L + (T + T')) (65536 * distance y y') e

  still_means : surely_still L T T' y y' ≡ true → 65536 * distance y y' + (T + T') ≤ 65536 * L
  unfolding surely_still
  still_means e = leb-true (65536 * distance y y' + (T + T')) (65536 * L) e

  -- no sample has both surely moved and is surely still: so the order of the two tests does not matter
  pub never_both : surely_moved L T T' y y' ≡ true → surely_still L T T' y y' ≡ true → ⊥
  never_both m s = omega (arith, moved_means m, still_means s)

-- the written difference and the exact one, in 65,536ths and over N·N': neither is larger than the other and both tolerances
module _ (T N y x T' N' y' x' : ℕ) (w : Apart N (T * N) y x) (w' : Apart N' (T' * N') y' x') where
  written-le : 65536 * (N * N' * distance y y') ≤ 65536 * exact_difference N x N' x' + (T + T') * (N * N')
  unfolding exact_difference distance
  written-le = omega (arith, mul-sub (N * N') y y', mul-sub (N * N') y' y, mul-le-mul_left N' w.le, mul-le-mul_left N' w.ge, mul-le-mul_left N w'.le, mul-le-mul_left N w'.ge)

  exactly-le : 65536 * exact_difference N x N' x' ≤ 65536 * (N * N' * distance y y') + (T + T') * (N * N')
  unfolding exact_difference distance
  exactly-le = omega (arith, mul-sub (N * N') y y', mul-sub (N * N') y' y, mul-le-mul_left N' w.le, mul-le-mul_left N' w.ge, mul-le-mul_left N w'.le, mul-le-mul_left N w'.ge)

-- WHAT THE TOLERANCE IS FOR
pub motion-true : (L T N y x T' N' y' x' : ℕ) → 0 < N → 0 < N' → Within T N y x → Within T' N' y' x' → TrueOf (motion L T T' y y') L N x N' x'
unfolding motion
motion-true L T N y x T' N' y' x' p p' w w' = first (surely_moved L T T' y y') refl
  where
    a : Apart N (T * N) y x
    a = apart_of_within T N y x w

    a' : Apart N' (T' * N') y' x'
    a' = apart_of_within T' N' y' x' w'

    second : (t : Bool) → surely_still L T T' y y' ≡ t → TrueOf (cond t still unsettled) L N x N' x'
    second true e = omega (arith, exactly-le T N y x T' N' y' x' a a', mul-le-mul_left (N * N') (still_means L T T' y y' e))
    second false e = tt

    first : (t : Bool) → surely_moved L T T' y y' ≡ t → TrueOf (cond t moved (cond (surely_still L T T' y y') still unsettled)) L N x N' x'
    first true e = omega (arith, written-le T N y x T' N' y' x' a a', mul-le-mul_left (N * N') (moved_means L T T' y y' e), mul-pos p p')
    first false e = second (surely_still L T T' y y') refl
