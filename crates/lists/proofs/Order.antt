-- In a list that a strict order settles, exactly min L n of the n elements have fewer than L elements before them. Assumes nothing.
use Prim.Native.Nat.{ℕ, suc, ◌+◌, ◌-◌, ◌≤◌, ◌<◌, min}
use native.Mathlib.Omega.{arith}
use mathlib.Core.Path.{◌≡◌, refl}
use mathlib.Core.Bool.{Bool, true, false, not, cond}
use mathlib.Core.Logic.{◌⊎◌, ⊎_elim}
use mathlib.Core.List.{List, [], ◌∷◌, Memᴰ}
use lib.ListN.{length}
use lib.Dec.{T, ltb, ltb→lt, lt→ltb, not_T, T_not}
use Rattle.lists.specs.Count.{count}
use Rattle.lists.proofs.Count.{count_mono, count_strict, count_ext, count-length, Bit, one, none, bit_lt, bit_true, bit_false}

pub record Strict {A : Type 0} (before : A → A → Bool) : Type 0 where
  pub irreflexive : (x : A) → T (not (before x x))
  pub transitive : (x y z : A) → T (before x y) → T (before y z) → T (before x z)

-- of two elements one stands before the other
abbrev pub Settled : {A : Type 0} → (A → A → Bool) → List A → Type 0
Settled before [] = Unit {0}
Settled {A} before (x ∷ xs) = ((z : A) → Memᴰ z xs → T (before x z) ⊎ T (before z x)) × Settled before xs

same_test : (a b c d : ℕ) → (a < b → c < d) → (c < d → a < b) → ltb a b ≡ ltb c d
same_test a b c d h k = go (ltb a b) (ltb c d) (λ t. lt→ltb c d (h (ltb→lt a b t))) (λ t. lt→ltb a b (k (ltb→lt c d t)))
  where
    go : (s t : Bool) → (T s → T t) → (T t → T s) → s ≡ t
    go true true i j = refl
    go true false i j = absurd (i tt)
    go false true i j = absurd (j tt)
    go false false i j = refl

module _ {A : Type 0} (before : A → A → Bool) (strict : Strict before) where
  -- how many elements stand before x
  rank : List A → A → ℕ
  rank xs x = count (λ y. before y x) xs

  asymmetric : (x z : A) → T (before z x) → T (not (before x z))
  asymmetric x z h = not_T (before x z) (λ k. T_not (before x x) (strict.irreflexive x) (strict.transitive x z x k h))

  rank_mono : (xs : List A) (x z : A) → T (before x z) → rank xs x ≤ rank xs z
  unfolding rank
  rank_mono xs x z h = count_mono (λ y. before y x) (λ y. before y z) (λ y k. strict.transitive y x z k h) xs

  rank_strict : (xs : List A) (x z : A) → Memᴰ z xs → T (before z x) → rank xs z < rank xs x
  unfolding rank
  rank_strict xs x z m h = count_strict (λ y. before y z) (λ y. before y x) (λ y k. strict.transitive y z x k h) z m (strict.irreflexive z) h

  -- an element x more before the list: the test of the others, with L and with L - 1
  module _ (xs : List A) (x z : A) (m : Memᴰ z xs) (apart : T (before x z) ⊎ T (before z x)) where
    none_left : (L : ℕ) → L ≤ rank xs x → ltb (cond (before x z) 1 0 + rank xs z) L ≡ ltb (rank xs z) L
    none_left L l =
        ⊎_elim
        (λ h. same_test _ L _ L (λ i. omega arith) (λ i. absurd (omega (arith, rank_mono xs x z h))))
        (λ h. same_test _ L _ L (λ i. omega arith) (λ i. omega (arith, bit_false (before x z) (asymmetric x z h))))
        apart

    one_left : (L : ℕ) → rank xs x ≤ L → ltb (cond (before x z) 1 0 + rank xs z) (suc L) ≡ ltb (rank xs z) L
    one_left L l =
        ⊎_elim
        (λ h. same_test _ (suc L) _ L (λ i. omega (arith, bit_true (before x z) h)) (λ i. omega (arith, bit_true (before x z) h)))
        (λ h. same_test _ (suc L) _ L (λ i. omega (arith, rank_strict xs x z m h)) (λ i. omega (arith, bit_false (before x z) (asymmetric x z h))))
        apart

  pub served : (L : ℕ) (xs : List A) → Settled before xs → count (λ x. ltb (count (λ y. before y x) xs) L) xs ≡ min L (length xs)
  unfolding count rank
  served L [] s = omega arith
  served L (x ∷ xs) s = go (bit_lt (cond (before x x) 1 0 + rank xs x) L) (λ k. served k xs s.1)
    where
      others : ℕ
      others = count (λ z. ltb (cond (before x z) 1 0 + rank xs z) L) xs

      -- as many of the others as without x, or as with one unit less
      same : L ≤ rank xs x → others ≡ count (λ z. ltb (rank xs z) L) xs
      same l = count_ext _ _ xs (λ z m. none_left xs x z m (s.0 z m) L l)

      fewer : (K : ℕ) → L ≡ suc K → rank xs x ≤ K → others ≡ count (λ z. ltb (rank xs z) K) xs
      fewer K e l = rw e (count_ext _ _ xs (λ z m. one_left xs x z m (s.0 z m) K l))

      x_first : ◌≡◌ {A = ℕ} (cond (before x x) 1 0) 0
      x_first = bit_false (before x x) (strict.irreflexive x)

      go : {n : ℕ} → Bit (cond (before x x) 1 0 + rank xs x < L) (L ≤ cond (before x x) 1 0 + rank xs x) n
          → ((k : ℕ) → count (λ z. ltb (rank xs z) k) xs ≡ min k (length xs)) → n + others ≡ min L (suc (length xs))
      go (one h) ih = omega (arith, fewer (L - 1) (omega (arith, x_first)) (omega (arith, x_first)), ih (L - 1))
      go (none h) ih = omega (arith, x_first, same (omega (arith, x_first)), ih L, count-length (λ y. before y x) xs)
