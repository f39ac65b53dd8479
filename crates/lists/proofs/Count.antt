-- Counts compared, by what holds of each element. Assumes nothing.
use Prim.Native.Nat.{ℕ, ◌≤◌, ◌<◌}
use native.Mathlib.Nat.{le_refl}
use native.Mathlib.Omega.{arith}
use mathlib.Core.Path.{◌≡◌, refl, subst}
use mathlib.Core.Bool.{Bool, true, false, not, cond}
use mathlib.Core.List.{List, [], ◌∷◌, Memᴰ}
use lib.ListN.{length}
use lib.Dec.{T, eqb, ltb, leb, ltb→lt, nltb→le, leb→le, nleb→lt}
use borrow.Author.Tests.{eqb-true, eqb-false}
use Rattle.lists.specs.Count.{count}

-- a test's bit, by what the test found
pub data Bit (P Q : Type 0) : ℕ → Type 0 where
  one : P → Bit P Q 1
  none : Q → Bit P Q 0

pub bit_lt : (a b : ℕ) → Bit (a < b) (b ≤ a) (cond (ltb a b) 1 0)
bit_lt a b = go (ltb a b) (ltb→lt a b) (nltb→le a b)
  where
    go : (t : Bool) → (T t → a < b) → (T (not t) → b ≤ a) → Bit (a < b) (b ≤ a) (cond t 1 0)
    go true h k = one (h tt)
    go false h k = none (k tt)

pub bit_le : (a b : ℕ) → Bit (a ≤ b) (b < a) (cond (leb a b) 1 0)
bit_le a b = go (leb a b) (leb→le a b) (nleb→lt a b)
  where
    go : (t : Bool) → (T t → a ≤ b) → (T (not t) → b < a) → Bit (a ≤ b) (b < a) (cond t 1 0)
    go true h k = one (h tt)
    go false h k = none (k tt)

pub bit_eq : (a b : ℕ) → Bit (a ≡ b) (a ≡ b → ⊥) (cond (eqb a b) 1 0)
bit_eq a b = go (eqb a b) refl
  where
    go : (t : Bool) → eqb a b ≡ t → Bit (a ≡ b) (a ≡ b → ⊥) (cond t 1 0)
    go true e = one (eqb-true a b e)
    go false e = none (eqb-false a b e)

pub bit_same : (a : ℕ) → cond {A = ℕ} (eqb a a) 1 0 ≡ 1
bit_same a = go (bit_eq a a)
  where
    go : {n : ℕ} → Bit (a ≡ a) (a ≡ a → ⊥) n → n ≡ 1
    go (one e) = refl
    go (none e) = absurd (e refl)

pub bit_true : (t : Bool) → T t → ◌≡◌ {A = ℕ} (cond t 1 0) 1
bit_true true h = refl
bit_true false h = absurd h

pub bit_false : (t : Bool) → T (not t) → ◌≡◌ {A = ℕ} (cond t 1 0) 0
bit_false true h = absurd h
bit_false false h = refl

pub bit_one : (t : Bool) → cond t 1 0 ≤ 1
bit_one true = omega arith
bit_one false = omega arith

pub bit_mono : (a b : Bool) → (T a → T b) → cond a 1 0 ≤ cond b 1 0
bit_mono true true h = omega arith
bit_mono true false h = absurd (h tt)
bit_mono false true h = omega arith
bit_mono false false h = omega arith

pub bit_strict : (a b : Bool) → T (not a) → T b → cond a 1 0 < cond b 1 0
bit_strict true b h k = absurd h
bit_strict false true h k = omega arith
bit_strict false false h k = absurd k

module _ {A : Type 0} (p q : A → Bool) where
  pub count_mono : ((x : A) → T (p x) → T (q x)) → (xs : List A) → count p xs ≤ count q xs
  unfolding count
  count_mono h [] = le_refl 0
  count_mono h (x ∷ xs) = omega (arith, bit_mono (p x) (q x) (h x), count_mono h xs)

  -- one element more passes
  pub count_strict : ((x : A) → T (p x) → T (q x)) → (z : A) {xs : List A} → Memᴰ z xs → T (not (p z)) → T (q z) → count p xs < count q xs
  unfolding count
  count_strict h z (Memᴰ.head {x} {xs} e) n y = omega (arith, bit_strict (p x) (q x) (subst (λ w. T (not (p w))) e n) (subst (λ w. T (q w)) e y), count_mono h xs)
  count_strict h z (Memᴰ.tail {x} {xs} m) n y = omega (arith, bit_mono (p x) (q x) (h x), count_strict h z m n y)

  pub count_ext : (xs : List A) → ((z : A) → Memᴰ z xs → p z ≡ q z) → count p xs ≡ count q xs
  unfolding count
  count_ext [] h = refl
  count_ext (x ∷ xs) h = rw (h x (Memᴰ.head refl), count_ext xs (λ z m. h z (Memᴰ.tail m)))

pub count-length : {A : Type 0} (p : A → Bool) (xs : List A) → count p xs ≤ length xs
unfolding count
count-length p [] = le_refl 0
count-length p (x ∷ xs) = omega (arith, bit_one (p x), count-length p xs)
