-- WHOLE SUMS BY TAPS CAN BE TAKEN IN EITHER ORDER: down first and then across, or across first and then down. Assumes nothing.
use Prim.Native.Nat.{ℕ, zero, suc}
use mathlib.Core.Path.{◌≡◌, refl, sym, ap, ◌∙◌}
use mathlib.Core.List.{List}
use lib.ListN.{get_or}
use lib.IntN.{ℤ, pos, ◌+ℤ◌, ◌*ℤ◌, *ℤ-zero}
use Rattle.integers.proofs.Parts.{add-add, mul-add, mul_swap}
use Rattle.tap_sums.specs.HeldSums.{held_sum}

module _ (offsets : List ℕ) (weights : List ℤ) where
  -- a sum of nothing
  sum_of_none : (n : ℕ) → held_sum offsets weights n (λ o. pos 0) ≡ pos 0
  unfolding held_sum
  sum_of_none zero = refl
  sum_of_none (suc n) = rw (sum_of_none n, *ℤ-zero (get_or weights n (pos 0))) refl

  -- a sum of sums
  sum_of_sums : (f g : ℕ → ℤ) (n : ℕ) → held_sum offsets weights n (λ o. f o +ℤ g o) ≡ held_sum offsets weights n f +ℤ held_sum offsets weights n g
  unfolding held_sum
  sum_of_sums f g zero = refl
  sum_of_sums f g (suc n) =
      let a = get_or weights n (pos 0) in
      let o = get_or offsets n 0 in
      ap (λ (z : ℤ). z +ℤ a *ℤ (f o +ℤ g o)) (sum_of_sums f g n)
      ∙ ap (λ (z : ℤ). held_sum offsets weights n f +ℤ held_sum offsets weights n g +ℤ z) (mul-add a (f o) (g o))
      ∙ add-add (held_sum offsets weights n f) (held_sum offsets weights n g) (a *ℤ f o) (a *ℤ g o)

  -- a factor
  sum_of_multiples : (a : ℤ) (f : ℕ → ℤ) (n : ℕ) → held_sum offsets weights n (λ o. a *ℤ f o) ≡ a *ℤ held_sum offsets weights n f
  unfolding held_sum
  sum_of_multiples a f zero = sym (*ℤ-zero a)
  sum_of_multiples a f (suc n) =
      let b = get_or weights n (pos 0) in
      let x = f (get_or offsets n 0) in
      ap (λ (z : ℤ). z +ℤ b *ℤ (a *ℤ x)) (sum_of_multiples a f n)
      ∙ ap (λ (z : ℤ). a *ℤ held_sum offsets weights n f +ℤ z) (mul_swap b a x)
      ∙ sym (mul-add a (held_sum offsets weights n f) (b *ℤ x))

module _ (offsets : List ℕ) (weights : List ℤ) (places : List ℕ) (factors : List ℤ) (g : ℕ → ℕ → ℤ) (m : ℕ) where
  pub exchanged : (n : ℕ) → held_sum offsets weights n (λ o. held_sum places factors m (λ p. g o p)) ≡ held_sum places factors m (λ p. held_sum offsets weights n (λ o. g o p))
  unfolding held_sum
  exchanged zero = sym (sum_of_none places factors m)
  exchanged (suc n) =
      let a = get_or weights n (pos 0) in
      let o = get_or offsets n 0 in
      ap (λ (z : ℤ). z +ℤ a *ℤ held_sum places factors m (λ p. g o p)) (exchanged n)
      ∙ ap (λ (z : ℤ). held_sum places factors m (λ p. held_sum offsets weights n (λ o. g o p)) +ℤ z) (sym (sum_of_multiples places factors a (λ p. g o p) m))
      ∙ sym (sum_of_sums places factors (λ p. held_sum offsets weights n (λ o. g o p)) (λ p. a *ℤ g o p) m)
