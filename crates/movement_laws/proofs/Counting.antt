-- Motions of two rasters, one by one and counted. Assumes nothing.
use Prim.Native.Nat.{ℕ, ◌+◌, ◌<◌}
use native.Mathlib.Omega.{arith}
use mathlib.Core.Path.{◌≡◌, refl, sym}
use mathlib.Core.Bool.{Bool, true, false, cond}
use mathlib.Core.List.{List, [], ◌∷◌}
use lib.ListN.{length, get_or}
use Rattle.lists.specs.Count.{count}
use Rattle.lists.proofs.Tabulate.{length-tabulate, get_d_tabulate}
use Rattle.movement.specs.Motion.{Motion, moved, still, unsettled, surely_moved, surely_still, motion}
use Rattle.movement.specs.Motions.{motions, is_moved, is_still, is_open, moved_count, still_count, open_count}
use Rattle.movement_laws.proofs.Truth.{never_both}

-- each motion is of one kind, so the three counts add up
pub counts-add-up : (ms : List Motion) → moved_count ms + still_count ms + open_count ms ≡ length ms
unfolding count
counts-add-up [] = refl
counts-add-up (m ∷ ms) = by_kind m (counts-add-up ms)
  where
    by_kind : (m : Motion) → moved_count ms + still_count ms + open_count ms ≡ length ms → moved_count (m ∷ ms) + still_count (m ∷ ms) + open_count (m ∷ ms) ≡ length (m ∷ ms)
    by_kind moved e = omega (arith, e)
    by_kind still e = omega (arith, e)
    by_kind unsettled e = omega (arith, e)

module _ (L T T' : ℕ) (xs ys : List ℕ) where
  pub motions-length : length (motions L T T' xs ys) ≡ length xs
  unfolding motions
  motions-length = length-tabulate (λ i. motion L T T' (get_or xs i 0) (get_or ys i 0)) (length xs)

  pub motion-at : (i : ℕ) → i < length xs → get_or (motions L T T' xs ys) i unsettled ≡ motion L T T' (get_or xs i 0) (get_or ys i 0)
  unfolding motions
  motion-at i b = get_d_tabulate (λ i. motion L T T' (get_or xs i 0) (get_or ys i 0)) (length xs) i unsettled b

module _ (L T T' y y' : ℕ) where
  -- a motion is told from its test
  pub is_moved_lem : is_moved (motion L T T' y y') ≡ surely_moved L T T' y y'
  unfolding motion
  is_moved_lem = by_tests (surely_moved L T T' y y') (surely_still L T T' y y')
    where
      by_tests : (m s : Bool) → is_moved (cond m moved (cond s still unsettled)) ≡ m
      by_tests true s = refl
      by_tests false true = refl
      by_tests false false = refl

  pub is-still : is_still (motion L T T' y y') ≡ surely_still L T T' y y'
  unfolding motion
  is-still = by_tests (surely_moved L T T' y y') (surely_still L T T' y y') (never_both L T T' y y')
    where
      by_tests : (m s : Bool) → (m ≡ true → s ≡ true → ⊥) → is_still (cond m moved (cond s still unsettled)) ≡ s
      by_tests true true n = absurd (n refl refl)
      by_tests true false n = refl
      by_tests false true n = refl
      by_tests false false n = refl
