-- Mirror: it has period 2n, it reads the same from both ends, and it is where reflecting again and again ends. Assumes nothing.
use Prim.Native.Nat.{ℕ, zero, suc, ◌+◌, ◌-◌, ◌*◌, ◌≤◌, ◌<◌}
use native.Mathlib.Nat.{lt_of_not-le}
use native.Mathlib.Omega.{arith}
use native.Mathlib.Decide.{dec_le}
use mathlib.Core.Path.{◌≡◌, refl, sym, ap, subst, ◌∙◌}
use mathlib.Core.Bool.{cond}
use mathlib.Core.Option.{some, some-injective}
use lib.Dec.{ltb}
use lib.IntN.{ℤ, pos, negsuc, neg_ℤ, nat_abs, ◌+ℤ◌, ◌-ℤ◌}
use borrow.Author.Tests.{lt-ltb, le-ltb}
use Rattle.integers.specs.Divide.{floor_div, modulo}
use Rattle.integers.proofs.Divide.{Divided, divided, divided_unique}
use Rattle.integers.proofs.Parts.{pos_part, neg_part, parts_ext, add_parts, sub_parts, neg-parts, abs_parts}
use Rattle.model.specs.Border.{mirror, closest, folded, supply}
use Rattle.model_laws.proofs.Border.{folded_low, folded_high, supply_identity}

-- ---- x over d leaves m: what x + d leaves, and c - x

module _ {x q : ℤ} {d m : ℕ} (x-over : Divided x d q m) where
  sum_over : Divided (x +ℤ pos d) d (q +ℤ pos 1) m
  sum_over = record { whole = omega (arith, x-over.whole, add_parts x (pos d), ap (λ (k : ℕ). d * k) (add_parts q (pos 1)).sum); small = x-over.small }

  pub difference_over : (c k t : ℕ) → t < d → t + m ≡ c + d * k → Divided (pos c -ℤ x) d (neg_ℤ q -ℤ pos k) t
  difference_over c k t h e = record {
    whole =
        omega (
          arith,
          x-over.whole,
          e,
          sub_parts (pos c) x,
          ap (λ (i : ℕ). d * i) (sub_parts (neg_ℤ q) (pos k)).sum,
          ap (λ (i : ℕ). d * i) (neg-parts q).high,
          ap (λ (i : ℕ). d * i) (neg-parts q).low,
        );
    small = h;
  }

-- ---- the rule at any x of an axis of length n

module _ (n : ℕ) (h : 0 < n) where
  supply_of : {z q : ℤ} {m : ℕ} → Divided z (2 * n) q m → supply mirror n z ≡ some (folded n m)
  unfolding supply
  supply_of {z} d = ap (λ (m : ℕ). some (folded n m)) (divided_unique (divided z (2 * n) (omega arith)) d).1

  over : (x : ℤ) → Divided x (2 * n) (floor_div x (2 * n)) (modulo x (2 * n))
  over x = divided x (2 * n) (omega arith)

  -- the same again 2n further on
  pub mirror_period : (x : ℤ) → supply mirror n (x +ℤ pos (2 * n)) ≡ supply mirror n x
  mirror_period x = supply_of (sum_over (over x)) ∙ sym (supply_of (over x))

  folded_back : (m : ℕ) → m < 2 * n → folded n (2 * n - 1 - m) ≡ folded n m
  folded_back m k = go (dec_le n m)
    where
      go : Dec (n ≤ m) → folded n (2 * n - 1 - m) ≡ folded n m
      go (yes l) = folded_low (omega arith) ∙ sym (folded_high l)
      go (no l) = folded_high (omega (arith, lt_of_not-le l)) ∙ omega (arith, lt_of_not-le l) ∙ sym (folded_low (lt_of_not-le l))

  -- a period reads the same from both ends
  pub mirror_palindrome : (x : ℤ) → supply mirror n (pos (2 * n - 1) -ℤ x) ≡ supply mirror n x
  mirror_palindrome x =
      let m = modulo x (2 * n) in
      let small : m < 2 * n = (over x).small in
      supply_of (difference_over (over x) (2 * n - 1) 0 (2 * n - 1 - m) (omega arith) (omega arith))
      ∙ ap some (folded_back m small)
      ∙ sym (supply_of (over x))

  -- the indices below 0, from -1 down, read as those from 0 up
  pub mirror_below : (k : ℕ) → supply mirror n (negsuc k) ≡ supply mirror n (pos k)
  mirror_below k =
      let e : negsuc k +ℤ pos (2 * n) ≡ pos (2 * n - 1) -ℤ pos k = parts_ext _ _ (omega (arith, add_parts (negsuc k) (pos (2 * n)), sub_parts (pos (2 * n - 1)) (pos k))) in
      sym (mirror_period (negsuc k)) ∙ ap (supply mirror n) e ∙ mirror_palindrome (pos k)

  pub flipped_of : {x q : ℤ} {m : ℕ} → Divided x (2 * n) q m → supply mirror n (pos (n - 1) -ℤ x) ≡ some (n - 1 - folded n m)
  flipped_of {x} {q} {m} d = go (dec_le n m)
    where
      upper : (t f : ℕ) → t + suc m ≡ 3 * n → f + suc m ≡ 2 * n → 2 * n - 1 - t ≡ n - 1 - f
      upper t f e g = omega (arith, e, g)

      go : Dec (n ≤ m) → supply mirror n (pos (n - 1) -ℤ x) ≡ some (n - 1 - folded n m)
      go (yes l) =
          supply_of (difference_over d (n - 1) 1 (3 * n - 1 - m) (omega (arith, d.small, l)) (omega (arith, d.small, l)))
          ∙ ap some (folded_high (omega (arith, d.small, l)) ∙ upper (3 * n - 1 - m) (folded n m) (omega (arith, d.small)) (omega (arith, d.small, l, folded_high l)))
      go (no k) =
          let l = lt_of_not-le k in
          supply_of (difference_over d (n - 1) 0 (n - 1 - m) (omega (arith, l)) (omega (arith, l)))
          ∙ ap some (folded_low (omega (arith, l)) ∙ omega (arith, l, folded_low l))

  -- counted from the other end, the index that stands in is counted from there too
  pub mirror_flipped : (x : ℤ) (k : ℕ) → supply mirror n x ≡ some k → supply mirror n (pos (n - 1) -ℤ x) ≡ some (n - 1 - k)
  mirror_flipped x k e =
      let same : folded n (modulo x (2 * n)) ≡ k = some-injective _ _ (sym (supply_of (over x)) ∙ e) in
      flipped_of (over x) ∙ ap (λ (i : ℕ). some (n - 1 - i)) same

-- ---- reflecting

-- once, at the end that x lies beyond: -1, -2, .. become 0, 1, .., and n, n + 1, .. become n - 1, n - 2, ..; an index inside stays
unfoldable pub reflected : ℕ → ℤ → ℤ
reflected n (negsuc k) = pos k
reflected n (pos k) = cond (ltb k n) (pos k) (pos (2 * n - 1) -ℤ pos k)

-- and j times
unfoldable pub reflections : ℕ → ℕ → ℤ → ℤ
reflections n zero x = x
reflections n (suc j) x = reflections n j (reflected n x)

-- the rule that request 2026-04 replaced: reflected once, and where that is outside too, the closest
abbrev pub once : ℕ → ℤ → ℕ
once n x = closest n (reflected n x)

-- x is led to an index inside
pub record Lands (n : ℕ) (x : ℤ) : Type 0 where
  pub times : ℕ
  pub index : ℕ
  pub there : reflections n times x ≡ pos index
  pub inside : index < n

module _ (n : ℕ) (h : 0 < n) where
  -- the rule sees no difference
  pub mirror_reflected : (x : ℤ) → supply mirror n (reflected n x) ≡ supply mirror n x
  unfolding reflected
  mirror_reflected (negsuc k) = sym (mirror_below n h k)
  mirror_reflected (pos k) = go (dec_le n k)
    where
      go : Dec (n ≤ k) → supply mirror n (cond (ltb k n) (pos k) (pos (2 * n - 1) -ℤ pos k)) ≡ supply mirror n (pos k)
      go (yes l) = rw (le-ltb k n l) (mirror_palindrome n h (pos k))
      go (no l) = rw (lt-ltb k n (lt_of_not-le l))

  -- so an index inside that some number of reflections leads to is the one that is supplied
  pub mirror_again : (j : ℕ) (x : ℤ) (k : ℕ) → k < n → reflections n j x ≡ pos k → supply mirror n x ≡ some k
  unfolding reflections
  mirror_again zero x k l e = ap (supply mirror n) e ∙ supply_identity mirror n k l
  mirror_again (suc j) x k l e = sym (mirror_reflected x) ∙ mirror_again j (reflected n x) k l e

  later : (x : ℤ) → Lands n (reflected n x) → Lands n x
  unfolding reflections
  later x l = record { times = suc l.times; index = l.index; there = l.there; inside = l.inside }

  -- every reflection of an index outside makes it smaller
  lands_below : (b : ℕ) (x : ℤ) → pos_part x + neg_part x < b → Lands n x
  unfolding reflections reflected
  lands_below zero x l = absurd (omega (arith, l))
  lands_below (suc b) (negsuc k) l = later (negsuc k) (lands_below b (pos k) (omega (arith, l)))
  lands_below (suc b) (pos k) l = go (lands_below b) (dec_le n k)
    where
      smaller : n ≤ k → (y : ℤ) → pos_part y + k ≡ 2 * n - 1 + neg_part y → pos_part y + neg_part y < k
      smaller c (pos a) e = omega (arith, c, h, e)
      smaller c (negsuc a) e = omega (arith, c, h, e)

      go : ((y : ℤ) → pos_part y + neg_part y < b → Lands n y) → Dec (n ≤ k) → Lands n (pos k)
      go less (yes c) =
          let y = pos (2 * n - 1) -ℤ pos k in
          let e : reflected n (pos k) ≡ y = rw (le-ltb k n c) in
          later (pos k) (subst (Lands n) (sym e) (less y (omega (arith, l, smaller c y (omega (arith, sub_parts (pos (2 * n - 1)) (pos k)))))))
      go less (no c) = record { times = 0; index = k; there = refl; inside = lt_of_not-le c }

  -- and there is such a number, for every x
  pub mirror_lands : (x : ℤ) → Lands n x
  mirror_lands x = lands_below (suc (pos_part x + neg_part x)) x (omega arith)

  -- where the first reflection lands inside, nothing has changed
  pub mirror_as_before : (x : ℤ) (k : ℕ) → k < n → reflected n x ≡ pos k → supply mirror n x ≡ some (once n x)
  unfolding closest reflections
  mirror_as_before x k l e =
      let same : some (closest n (pos k)) ≡ some k = ap some (omega arith) in
      rw e (mirror_again 1 x k l e ∙ sym same)

  -- it does from -n to 2n - 1
  one_enough : (x : ℤ) → pos_part x < 2 * n → neg_part x ≤ n → supply mirror n x ≡ some (once n x)
  unfolding reflected
  one_enough (negsuc k) l b = mirror_as_before (negsuc k) k (omega (arith, b)) refl
  one_enough (pos k) l b = go (dec_le n k)
    where
      go : Dec (n ≤ k) → supply mirror n (pos k) ≡ some (once n (pos k))
      go (yes c) =
          let e : pos (2 * n - 1) -ℤ pos k ≡ pos (2 * n - 1 - k) = parts_ext _ _ (omega (arith, l, sub_parts (pos (2 * n - 1)) (pos k))) in
          mirror_as_before (pos k) (2 * n - 1 - k) (omega (arith, c)) (rw (le-ltb k n c) e)
      go (no c) = mirror_as_before (pos k) k (lt_of_not-le c) (rw (lt-ltb k n (lt_of_not-le c)))

  -- so offsets that reach no further than the axis is long find what they found before
  pub mirror_reach : (u : ℕ) (i : ℤ) → u < n → nat_abs i ≤ n → supply mirror n (pos u +ℤ i) ≡ some (once n (pos u +ℤ i))
  mirror_reach u i l b = one_enough (pos u +ℤ i) (omega (arith, l, b, add_parts (pos u) i, abs_parts i)) (omega (arith, l, b, add_parts (pos u) i, abs_parts i))
