-- The p-th smallest is at most v exactly if at least p samples are. So it moves no further than the samples do. Assumes nothing.
use Prim.Native.Nat.{ℕ, zero, suc, ◌+◌, ◌*◌, ◌-◌, ◌/◌, ◌≤◌, ◌<◌, zero-le}
use native.Mathlib.Nat.{le_refl, le_trans, le_antisymm, lt_of_not-le, mul-le-mul_left, le_of_suc-le-suc, not-suc-le-zero, le-div_iff_mul-le}
use native.Mathlib.Omega.{arith}
use native.Mathlib.Decide.{dec_le}
use mathlib.Core.Path.{◌≡◌, refl, ap, ◌∙◌}
use mathlib.Core.Logic.{◌↔◌}
use mathlib.Core.Bool.{Bool, true, false, cond, not}
use mathlib.Core.List.{List, [], ◌∷◌}
use lib.ListN.{length, get_or}
use lib.Dec.{T, leb, leb→le, nleb→lt}
use lib.IntN.{ℤ, pos}
use Rattle.integers.specs.Divide.{clamp}
use Rattle.integers.proofs.Divide.{clamp-inside}
use Rattle.integers.proofs.Near.{near-clamp}
use Rattle.lists.specs.Count.{count, at_most}
use Rattle.lists.proofs.Count.{Bit, one, none, bit_le}
use Rattle.lists.proofs.Pairs.{Pairs, more, pairs_flip, pairs_length}
use Rattle.model.specs.Plane.{Neighbourhood}
use Rattle.model.specs.Window.{area, window}
use Rattle.model.specs.Rank.{insert, sort, smallest, rank_result}
use Rattle.model_laws.proofs.Weighted.{Close}
use Rattle.model_laws.proofs.Window.{length-window, pairs_window, Apart}

-- ---- sorted lists

abbrev Below : ℕ → List ℕ → Type 0
Below y [] = Unit {0}
Below y (z ∷ zs) = (y ≤ z) × Below y zs

abbrev Sorted : List ℕ → Type 0
Sorted [] = Unit {0}
Sorted (y ∷ ys) = Below y ys × Sorted ys

below_trans : {x y : ℕ} (zs : List ℕ) → x ≤ y → Below y zs → Below x zs
below_trans [] h b = tt
below_trans (z ∷ zs) h b = (le_trans h b.0, below_trans zs h b.1)

below-insert : {y : ℕ} (x : ℕ) (zs : List ℕ) → y ≤ x → Below y zs → Below y (insert x zs)
unfolding insert
below-insert x [] h b = (h, tt)
below-insert {y} x (z ∷ zs) h b = go (leb x z) (below-insert x zs h b.1)
  where
    go : (t : Bool) → Below y (insert x zs) → Below y (cond t (x ∷ z ∷ zs) (z ∷ insert x zs))
    go true q = (h, b)
    go false q = (b.0, q)

sorted_insert : (x : ℕ) (zs : List ℕ) → Sorted zs → Sorted (insert x zs)
unfolding insert
sorted_insert x [] q = (tt, tt)
sorted_insert x (z ∷ zs) q = go (leb x z) (leb→le x z) (nleb→lt x z) (sorted_insert x zs q.1)
  where
    go : (t : Bool) → (T t → x ≤ z) → (T (not t) → z < x) → Sorted (insert x zs) → Sorted (cond t (x ∷ z ∷ zs) (z ∷ insert x zs))
    go true h k r = ((h tt, below_trans zs (h tt) q.0), q)
    go false h k r = let l = k tt in (below-insert x zs (omega arith) q.0, r)

sorted_sort : (xs : List ℕ) → Sorted (sort xs)
unfolding sort
sorted_sort [] = tt
sorted_sort (x ∷ xs) = sorted_insert x (sort xs) (sorted_sort xs)

-- ---- sorting keeps the length and every count

length-insert : (x : ℕ) (zs : List ℕ) → length (insert x zs) ≡ suc (length zs)
unfolding insert
length-insert x [] = refl
length-insert x (z ∷ zs) = go (leb x z) (length-insert x zs)
  where
    go : (t : Bool) → length (insert x zs) ≡ suc (length zs) → length (cond t (x ∷ z ∷ zs) (z ∷ insert x zs)) ≡ suc (suc (length zs))
    go true e = refl
    go false e = ap suc e

length-sort : (xs : List ℕ) → length (sort xs) ≡ length xs
unfolding sort
length-sort [] = refl
length-sort (x ∷ xs) = length-insert x (sort xs) ∙ ap suc (length-sort xs)

count-insert : (v x : ℕ) (zs : List ℕ) → at_most v (insert x zs) ≡ at_most v (x ∷ zs)
unfolding insert count
count-insert v x [] = refl
count-insert v x (z ∷ zs) = go (leb x z) (count-insert v x zs)
  where
    go : (t : Bool) → at_most v (insert x zs) ≡ cond (leb x v) 1 0 + at_most v zs → at_most v (cond t (x ∷ z ∷ zs) (z ∷ insert x zs)) ≡ cond (leb x v) 1 0 + (cond (leb z v) 1 0 + at_most v zs)
    go true e = refl
    go false e = omega arith

count-sort : (v : ℕ) (xs : List ℕ) → at_most v (sort xs) ≡ at_most v xs
unfolding sort count
count-sort v [] = refl
count-sort v (x ∷ xs) = count-insert v x (sort xs) ∙ ap (λ (n : ℕ). cond (leb x v) 1 0 + n) (count-sort v xs)

-- ---- in a sorted list place k is at most v exactly if more than k elements are

below_none : (y v : ℕ) (zs : List ℕ) → v < y → Below y zs → at_most v zs ≡ 0
unfolding count
below_none y v [] h b = refl
below_none y v (z ∷ zs) h b = go (bit_le z v) (below_none y v zs h b.1)
  where
    go : {n : ℕ} → Bit (z ≤ v) (v < z) n → at_most v zs ≡ 0 → n + at_most v zs ≡ 0
    go (one l) e = absurd (omega (arith, b.0))
    go (none l) e = omega arith

below_at : (y : ℕ) (zs : List ℕ) (k : ℕ) → Below y zs → k < length zs → y ≤ get_or zs k 0
below_at y [] k b h = absurd (not-suc-le-zero h)
below_at y (z ∷ zs) zero b h = b.0
below_at y (z ∷ zs) (suc k) b h = below_at y zs k b.1 (le_of_suc-le-suc h)

at→count : (v : ℕ) (zs : List ℕ) (k : ℕ) → Sorted zs → k < length zs → get_or zs k 0 ≤ v → k < at_most v zs
unfolding count
at→count v [] k q h l = absurd (not-suc-le-zero h)
at→count v (z ∷ zs) zero q h l = go (bit_le z v)
  where
    go : {n : ℕ} → Bit (z ≤ v) (v < z) n → 0 < n + at_most v zs
    go (one l) = omega arith
    go (none m) = absurd (omega arith)
at→count v (z ∷ zs) (suc k) q h l = go (bit_le z v) (at→count v zs k q.1 (le_of_suc-le-suc h) l) (below_at z zs k q.0 (le_of_suc-le-suc h))
  where
    go : {n : ℕ} → Bit (z ≤ v) (v < z) n → k < at_most v zs → z ≤ get_or zs k 0 → suc k < n + at_most v zs
    go (one m) i j = omega arith
    go (none m) i j = absurd (omega arith)

count→at : (v : ℕ) (zs : List ℕ) (k : ℕ) → Sorted zs → k < at_most v zs → get_or zs k 0 ≤ v
unfolding count
count→at v [] k q h = zero-le
count→at v (z ∷ zs) zero q h = go (bit_le z v) h
  where
    go : {n : ℕ} → Bit (z ≤ v) (v < z) n → 0 < n + at_most v zs → z ≤ v
    go (one l) i = l
    go (none l) i = absurd (omega (arith, below_none z v zs l q.0))
count→at v (z ∷ zs) (suc k) q h = count→at v zs k q.1 (go (bit_le z v) h)
  where
    go : {n : ℕ} → Bit (z ≤ v) (v < z) n → suc k < n + at_most v zs → k < at_most v zs
    go (one l) i = omega arith
    go (none l) i = omega arith

-- THE LAW OF `smallest`
pub smallest_iff : (p v : ℕ) (xs : List ℕ) → 1 ≤ p → p ≤ length xs → (smallest p xs ≤ v) ↔ (p ≤ at_most v xs)
unfolding smallest
smallest_iff p v xs h l = (
  (λ q. omega (arith, at→count v (sort xs) (p - 1) (sorted_sort xs) (omega (arith, length-sort xs)) q, count-sort v xs)),
  (λ q. count→at v (sort xs) (p - 1) (sorted_sort xs) (omega (arith, count-sort v xs))),
)

-- found by counting: enough are at most v, and too few at most anything below
pub smallest_by : (p v : ℕ) (xs : List ℕ) → 1 ≤ p → p ≤ length xs → p ≤ at_most v xs → ((w : ℕ) → w < v → at_most w xs < p) → smallest p xs ≡ v
smallest_by p v xs h l a b = le_antisymm ((smallest_iff p v xs h l).1 a) (go (dec_le v (smallest p xs)))
  where
    go : Dec (v ≤ smallest p xs) → v ≤ smallest p xs
    go (yes q) = q
    go (no q) = absurd (omega (arith, b (smallest p xs) (lt_of_not-le q), (smallest_iff p (smallest p xs) xs h l).0 (le_refl (smallest p xs))))

-- ---- two lists that are close pair by pair

count_pairs : {R : ℕ → ℕ → Type 0} {ys xs : List ℕ} (a b : ℕ) → ((y x : ℕ) → R y x → y ≤ a → x ≤ b) → Pairs R ys xs → at_most a ys ≤ at_most b xs
unfolding count
count_pairs a b h Pairs.none = le_refl 0
count_pairs {R} a b h (more {y} {x} {ys} {xs} r p) = go (bit_le y a) (bit_le x b) (count_pairs a b h p)
  where
    go : {n m : ℕ} → Bit (y ≤ a) (a < y) n → Bit (x ≤ b) (b < x) m → at_most a ys ≤ at_most b xs → n + at_most a ys ≤ m + at_most b xs
    go (one l) (one k) q = omega arith
    go (one l) (none k) q = absurd (omega (arith, h y x r l))
    go (none l) (one k) q = omega arith
    go (none l) (none k) q = omega arith

module _ (N e p : ℕ) (ys xs : List ℕ) (hN : 0 < N) (h : 1 ≤ p) (l : p ≤ length ys) (q : Pairs (Apart N e) ys xs) where
  Y : ℕ
  Y = smallest p ys

  X : ℕ
  X = smallest p xs

  l' : p ≤ length xs
  l' = omega (arith, pairs_length q)

  scale : 0 < 65536 * N
  scale = omega arith

  high : Y ≤ (65536 * X + e) / (65536 * N)
  unfolding X Y
  high =
      (smallest_iff p ((65536 * X + e) / (65536 * N)) ys h l).1
      (le_trans ((smallest_iff p X xs h l').0 (le_refl X))
      (count_pairs X ((65536 * X + e) / (65536 * N)) (λ x y r i. (le-div_iff_mul-le scale).1 (omega (arith, r.le))) (pairs_flip q)))

  low : X ≤ (65536 * N * Y + e) / 65536
  unfolding X Y
  low =
      (smallest_iff p ((65536 * N * Y + e) / 65536) xs h l').1
      (le_trans ((smallest_iff p Y ys h l).0 (le_refl Y))
      (count_pairs Y ((65536 * N * Y + e) / 65536) (λ y x r i. omega (arith, r.ge, mul-le-mul_left N i)) q))

  smallest-apart : Apart N e (smallest p ys) (smallest p xs)
  unfolding X Y
  smallest-apart = record { le = omega (arith, (le-div_iff_mul-le scale).0 high); ge = omega (arith, low) }

count-all : (m : ℕ) {ys xs : List ℕ} → Pairs (λ y x. y ≤ m) ys xs → length ys ≤ at_most m ys
unfolding count
count-all m Pairs.none = le_refl 0
count-all m (more {y} {ys = ys} r p) = go (bit_le y m) (count-all m p)
  where
    go : {n : ℕ} → Bit (y ≤ m) (m < y) n → length ys ≤ at_most m ys → suc (length ys) ≤ n + at_most m ys
    go (one l) q = omega arith
    go (none l) q = absurd (omega arith)

-- ---- the rank

fits : (r s p : ℕ) (f : Neighbourhood) → p ≤ area r s → p ≤ length (window r s f)
fits r s p f h = omega (arith, length-window r s f)

pub rank-le : (r s p : ℕ) → 1 ≤ p → p ≤ area r s → (f : Neighbourhood) → ((i j : ℤ) → f i j ≤ 255) → rank_result r s p f ≤ 255
unfolding rank_result
rank-le r s p hp hq f b = (smallest_iff p 255 (window r s f) hp (fits r s p f hq)).1 (le_trans (fits r s p f hq) (count-all 255 (pairs_window r s f f b)))

module _ (r s p N T : ℕ) (hN : 0 < N) (hp : 1 ≤ p) (hq : p ≤ area r s) (f x : Neighbourhood) (b : (i j : ℤ) → f i j ≤ 255) (c : (i j : ℤ) → Close T N (pos (f i j)) (pos (x i j))) where
  close : Close T N (pos (rank_result r s p f)) (pos (smallest p (window r s x)))
  unfolding rank_result
  close = omega (arith, smallest-apart N (T * N) p (window r s f) (window r s x) hN hp (fits r s p f hq) (pairs_window r s f x (λ i j. omega (arith, c i j))))

  pub rank_close : Close T N (pos (rank_result r s p f)) (pos (clamp (255 * N) (pos (smallest p (window r s x)))))
  rank_close = rw (clamp-inside (rank-le r s p hp hq f b)) at (near-clamp 65536 N 255 (pos (rank_result r s p f)) (pos (smallest p (window r s x))) close)
