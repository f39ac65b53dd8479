-- The members of a list: those of a map, and what a count says of them. Assumes nothing.
use Prim.Native.Nat.{◌+◌, ◌≤◌, ◌<◌}
use native.Mathlib.Nat.{le_refl}
use native.Mathlib.Omega.{arith}
use mathlib.Core.Path.{◌≡◌, refl, ap}
use mathlib.Core.Bool.{Bool, true, false, cond}
use mathlib.Core.Logic.{◌⊎◌, ⊎_elim}
use mathlib.Core.List.{List, [], ◌∷◌, map, Memᴰ}
use lib.ListN.{length}
use lib.Dec.{T}
use Rattle.lists.specs.Count.{count}
use Rattle.lists.proofs.Count.{bit_true, bit_one, count_strict, count-length}

module _ {A B : Type 0} (f : A → B) where
  pub mem_map : {x : A} {xs : List A} → Memᴰ x xs → Memᴰ (f x) (map f xs)
  mem_map (Memᴰ.head e) = Memᴰ.head (ap f e)
  mem_map (Memᴰ.tail m) = Memᴰ.tail (mem_map m)

  pub of_mem_map : (xs : List A) (y : B) → Memᴰ y (map f xs) → (x : A) × Memᴰ x xs × (y ≡ f x)
  of_mem_map [] y x' = elim x' [ ]
  of_mem_map (x ∷ xs) y (Memᴰ.head e) = (x, Memᴰ.head refl, e)
  of_mem_map (x ∷ xs) y (Memᴰ.tail m) = let s = of_mem_map xs y m in (s.0, Memᴰ.tail s.1, s.2)

-- ---- counts

passed : (t : Bool) → 1 ≤ cond t 1 0 → T t
passed true h = tt
passed false h = absurd (omega arith)

module _ {A : Type 0} (p : A → Bool) where
  pub count_every : (xs : List A) → count p xs ≡ length xs → (z : A) → Memᴰ z xs → T (p z)
  unfolding count
  count_every [] e z x'' = elim x'' [ ]
  count_every (x ∷ xs) e z (Memᴰ.head d) = rw d (passed (p x) (omega (arith, e, count-length p xs)))
  count_every (x ∷ xs) e z (Memᴰ.tail m) = count_every xs (omega (arith, e, bit_one (p x), count-length p xs)) z m

  pub every_counted : (xs : List A) → ((z : A) → Memᴰ z xs → T (p z)) → count p xs ≡ length xs
  unfolding count
  every_counted [] h = refl
  every_counted (x ∷ xs) h = omega (arith, bit_true (p x) (h x (Memᴰ.head refl)), every_counted xs (λ z m. h z (Memᴰ.tail m)))

  pub count-some : (xs : List A) → 0 < count p xs → (z : A) × Memᴰ z xs × T (p z)
  unfolding count
  count-some [] h = absurd (omega (arith, h))
  count-some (x ∷ xs) h = go (p x) refl (count-some xs)
    where
      go : (t : Bool) → p x ≡ t → (0 < count p xs → (z : A) × Memᴰ z xs × T (p z)) → (z : A) × Memᴰ z (x ∷ xs) × T (p z)
      go true e later = (x, Memᴰ.head refl, rw e tt)
      go false e later = let s = later (omega (arith, rw e at h)) in (s.0, Memᴰ.tail s.1, s.2)

  pub some-counted : (xs : List A) (z : A) → Memᴰ z xs → T (p z) → 0 < count p xs
  some-counted xs z m h = omega (arith, count_strict (λ x. false) p (λ x n. absurd n) z m tt h)

bit_either : (a b c : Bool) → (T a → T b ⊎ T c) → cond a 1 0 ≤ cond b 1 0 + cond c 1 0
bit_either false b c h = omega arith
bit_either true b c h = ⊎_elim (λ k. omega (arith, bit_true b k)) (λ k. omega (arith, bit_true c k)) (h tt)

-- those that pass one test pass another or a third
pub count_either : {A : Type 0} (p q r : A → Bool) → ((x : A) → T (p x) → T (q x) ⊎ T (r x)) → (xs : List A) → count p xs ≤ count q xs + count r xs
unfolding count
count_either p q r h [] = le_refl 0
count_either p q r h (x ∷ xs) = omega (arith, bit_either (p x) (q x) (r x) (h x), count_either p q r h xs)
