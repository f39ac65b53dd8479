-- The first place of a number, and the largest of some numbers, one entry more at a time. Assumes nothing.
use Prim.Native.Nat.{ℕ, zero, suc, ◌+◌, ◌<◌, max}
use native.Mathlib.Nat.{not-suc-le-zero}
use native.Mathlib.Numerals.{add-one}
use native.Mathlib.Omega.{arith}
use mathlib.Core.Path.{◌≡◌, refl, ap}
use mathlib.Core.Bool.{Bool, true, false, cond}
use lib.Dec.{ltb}
use borrow.Author.Tests.{eq-eqb, ne_eqb}
use Rattle.std.specs.Prelude.{None, Some}
use Rattle.std.specs.Option.{is_some}
use Rattle.lists.specs.Tabulate.{tabulate}
use Rattle.model.specs.Outline.{largest}
use Rattle.background.specs.Background.{position}
use Rattle.background_slots.specs.Slot.{place_among}

-- n is met at i, and not before
pub met_at : (n : ℕ) (f : ℕ → ℕ) (i k : ℕ) → i < k → ((j : ℕ) → j < i → f j ≡ n → ⊥) → f i ≡ n → position n (tabulate f k) ≡ i
unfolding tabulate position
met_at n f i zero l h e = absurd (not-suc-le-zero l)
met_at n f zero (suc k) l h e = rw (eq-eqb _ _ e)
met_at n f (suc i) (suc k) l h e =
    rw (ne_eqb (f 0) n (h 0 (omega arith))) (ap suc (met_at n (λ j. f (suc j)) i k (omega arith) (λ j b. h (suc j) (omega arith)) e))

-- whether a place is among k
pub is_there : (k i : ℕ) → is_some (place_among k i) ≡ ltb i k
is_there k i = go (ltb i k)
  where
    go : (t : Bool) → is_some (cond t (Some i) None) ≡ t
    go true = refl
    go false = refl

-- n is not met
pub not_met : (n : ℕ) (f : ℕ → ℕ) (k : ℕ) → ((j : ℕ) → j < k → f j ≡ n → ⊥) → position n (tabulate f k) ≡ k
unfolding tabulate position
not_met n f zero h = refl
not_met n f (suc k) h = rw (ne_eqb (f 0) n (h 0 (omega arith))) (ap suc (not_met n (λ j. f (suc j)) k (λ j b. h (suc j) (omega arith))))

pub largest-none : (f : ℕ → ℕ) → largest (tabulate f 0) ≡ 0
unfolding tabulate largest
largest-none f = refl

largest-suc : (f : ℕ → ℕ) (n : ℕ) → largest (tabulate f (suc n)) ≡ max (largest (tabulate f n)) (f n)
unfolding tabulate largest
largest-suc f zero = omega arith
largest-suc f (suc n) = omega (arith, largest-suc (λ i. f (suc i)) n)

pub largest-more : (f : ℕ → ℕ) (n : ℕ) → largest (tabulate f (n + 1)) ≡ max (largest (tabulate f n)) (f n)
largest-more f n = rw add-one (largest-suc f n)
