-- Responses weight by weight, and strengths kernel by kernel. Assumes nothing.
use Prim.Native.Nat.{ℕ, zero, suc, ◌+◌, ◌*◌, ◌≤◌, ◌<◌, max}
use native.Mathlib.Nat.{not-suc-le-zero, le_trans}
use native.Mathlib.Numerals.{add-one}
use native.Mathlib.Omega.{arith}
use mathlib.Core.Path.{◌≡◌, refl, sym, ◌∙◌}
use mathlib.Core.List.{List, [], ◌∷◌, map}
use lib.ListN.{length, get_or, take}
use lib.Seq.{take_all}
use lib.IntN.{ℤ, pos, nat_abs, ◌+ℤ◌, ◌*ℤ◌, +ℤ_comm, +ℤ_assoc}
use Rattle.model.specs.Outline.{outline_kernels, response, largest, edge_strength}

-- ---- the largest of some numbers

module _ {A : Type 0} (f : A → ℕ) (d : A) where
  -- none is larger
  largest-at : f d ≡ 0 → (xs : List A) (i : ℕ) → f (get_or xs i d) ≤ largest (map f xs)
  unfolding largest
  largest-at e [] i = omega (arith, e)
  largest-at e (x ∷ xs) zero = omega arith
  largest-at e (x ∷ xs) (suc i) = omega (arith, largest-at e xs i)

  -- one more
  largest_next : (xs : List A) (i : ℕ) → i < length xs → largest (map f (take (suc i) xs)) ≡ max (largest (map f (take i xs))) (f (get_or xs i d))
  unfolding largest
  largest_next [] i h = absurd (not-suc-le-zero h)
  largest_next (x ∷ xs) zero h = omega arith
  largest_next (x ∷ xs) (suc i) h = let e = largest_next xs i (omega arith) in omega (arith, e)

largest-none : largest [] ≡ 0
unfolding largest
largest-none = refl

all_ones : largest (map (λ c. largest (map nat_abs c)) outline_kernels) ≡ 1
unfolding largest outline_kernels
all_ones = refl

-- no weight of the four kernels is larger than 1
pub weight_le : (k i : ℕ) → nat_abs (get_or (get_or outline_kernels k []) i (pos 0)) ≤ 1
weight_le k i = le_trans (largest-at nat_abs (pos 0) refl (get_or outline_kernels k []) i) (rw all_ones at (largest-at (λ c. largest (map nat_abs c)) [] largest-none outline_kernels k))

-- ---- the sum of the first i products

pub record Summed (k : List ℤ) (xs : List ℕ) (i : ℕ) (sum : ℤ) : Type 0 where
  pub so_far : i ≤ 9
  pub is : sum ≡ response (take i k) (take i xs)
  pub small : nat_abs sum ≤ 255 * i

pub summed_none : (k : List ℤ) (xs : List ℕ) → Summed k xs 0 (pos 0)
unfolding response
summed_none k xs = record { so_far = omega arith; is = refl; small = omega arith }

response_next : (k : List ℤ) (xs : List ℕ) (i : ℕ) → i < length k → i < length xs
    → response (take (suc i) k) (take (suc i) xs) ≡ response (take i k) (take i xs) +ℤ get_or k i (pos 0) *ℤ pos (get_or xs i 0)
unfolding response
response_next [] xs i h l = absurd (not-suc-le-zero h)
response_next (a ∷ k) [] i h l = absurd (not-suc-le-zero l)
response_next (a ∷ k) (x ∷ xs) zero h l = +ℤ_comm (a *ℤ pos x) (pos 0)
response_next (a ∷ k) (x ∷ xs) (suc i) h l = rw (response_next k xs i (omega arith) (omega arith)) (sym (+ℤ_assoc (a *ℤ pos x) _ _))

module _ (k : List ℤ) (xs : List ℕ) (hk : 9 ≡ length k) (hx : 9 ≡ length xs) where
  pub summed_more : {i : ℕ} {sum next : ℤ} → Summed k xs i sum → i < 9 → next ≡ sum +ℤ get_or k i (pos 0) *ℤ pos (get_or xs i 0) → nat_abs next ≤ nat_abs sum + 255
      → Summed k xs (i + 1) next
  summed_more {i} s h e near = record {
    so_far = omega (arith, h);
    is = rw (e, s.is, add-one) (sym (response_next k xs i (omega (arith, h, hk)) (omega (arith, h, hx))));
    small = omega (arith, s.small, near);
  }

  pub summed_all : {i : ℕ} {sum : ℤ} → Summed k xs i sum → 9 ≤ i → (sum ≡ response k xs) × (nat_abs sum ≤ 2295)
  summed_all {i} {sum} s h = (s.is ∙ rw (take_all i k (omega (arith, h, hk)), take_all i xs (omega (arith, h, hx))), omega (arith, s.small, s.so_far))

-- ---- the largest magnitude among the first k

four : 4 ≡ length outline_kernels
unfolding outline_kernels
four = refl

pub record Strongest (xs : List ℕ) (k most : ℕ) : Type 0 where
  pub so_far : k ≤ 4
  pub is : most ≡ largest (map (λ c. nat_abs (response c xs)) (take k outline_kernels))

pub strongest_none : (xs : List ℕ) → Strongest xs 0 0
unfolding largest
strongest_none xs = record { so_far = omega arith; is = refl }

pub strongest_more : (xs : List ℕ) (k most next : ℕ) → Strongest xs k most → k < 4 → next ≡ max most (nat_abs (response (get_or outline_kernels k []) xs)) → Strongest xs (k + 1) next
strongest_more xs k most next s h e = record { so_far = omega (arith, h); is = rw (e, s.is, add-one) (sym (largest_next (λ c. nat_abs (response c xs)) [] outline_kernels k (omega (arith, h, four)))) }

pub strongest_all : (xs : List ℕ) (k most : ℕ) → Strongest xs k most → 4 ≤ k → most ≡ edge_strength xs
unfolding edge_strength
strongest_all xs k most s h = s.is ∙ rw (take_all k outline_kernels (omega (arith, h, four)))
