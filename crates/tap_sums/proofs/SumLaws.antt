-- Sums by held taps. Assumes nothing.
use Prim.Native.Nat.{ℕ, zero, suc, ◌*◌, ◌≤◌, ◌<◌}
use native.Mathlib.Nat.{mul-le-mul_left, eq-or-lt_of_le, le_of_suc-le-suc}
use native.Mathlib.Omega.{arith}
use mathlib.Core.Logic.{⊎_elim}
use mathlib.Core.Path.{◌≡◌, refl}
use mathlib.Core.List.{List}
use lib.ListN.{get_or}
use lib.IntN.{ℤ, pos, nat_abs, ◌+ℤ◌, ◌*ℤ◌}
use Rattle.integers.proofs.Parts.{parts_ext, add_parts, abs_add, abs_mul}
use Rattle.stage_values.specs.Size.{held_size}
use Rattle.tap_sums.specs.HeldSums.{held_sum}

-- ---- sizes

module _ (offsets : List ℕ) (weights : List ℤ) (g : ℕ → ℤ) where
  -- a sum of values of at most M
  pub held_size_lem : (M : ℕ) → ((o : ℕ) → nat_abs (g o) ≤ M) → (n : ℕ) → nat_abs (held_sum offsets weights n g) ≤ held_size weights n * M
  unfolding held_sum
  held_size_lem M h zero = omega arith
  held_size_lem M h (suc n) =
      let t = get_or weights n (pos 0) in
      let x = g (get_or offsets n 0) in
      omega (arith, abs_add (held_sum offsets weights n g) (t *ℤ x), abs_mul t x, held_size_lem M h n, mul-le-mul_left (nat_abs t) (h (get_or offsets n 0)))

-- fewer taps are no larger
pub size_mono : (weights : List ℤ) (k n : ℕ) → k ≤ n → held_size weights k ≤ held_size weights n
size_mono weights k zero h = rw (eq-zero h) (omega arith)
  where
    eq-zero : {j : ℕ} → j ≤ 0 → j ≡ 0
    eq-zero l = omega (arith, l)
size_mono weights k (suc n) h = ⊎_elim (λ e. rw e (omega arith)) (λ l. omega (arith, size_mono weights k n (le_of_suc-le-suc l))) (eq-or-lt_of_le h)

-- nor is one tap
pub weight_size : (weights : List ℤ) (k n : ℕ) → k < n → nat_abs (get_or weights k (pos 0)) ≤ held_size weights n
weight_size weights k n h = omega (arith, size_mono weights (suc k) n h)

-- ---- only what the taps reach counts

pub held_ext : (offsets : List ℕ) (weights : List ℤ) (f g : ℕ → ℤ) (n : ℕ) → ((i : ℕ) → i < n → f (get_or offsets i 0) ≡ g (get_or offsets i 0))
    → held_sum offsets weights n f ≡ held_sum offsets weights n g
unfolding held_sum
held_ext offsets weights f g zero h = refl
held_ext offsets weights f g (suc n) h = rw (held_ext offsets weights f g n (λ i k. h i (omega (arith, k))), h n (omega arith))

-- ---- a half that is in a sum from the start

pub half_last : (s h p : ℤ) → s +ℤ h +ℤ p ≡ s +ℤ p +ℤ h
half_last s h p = parts_ext _ _ (omega (arith, add_parts s h, add_parts (s +ℤ h) p, add_parts s p, add_parts (s +ℤ p) h))
