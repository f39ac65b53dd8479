-- How many samples are below a level: of some samples, and by the sum of the first counts. Assumes nothing.
use Prim.Native.Nat.{ℕ, zero, suc, ◌+◌, ◌-◌, ◌≤◌, ◌<◌}
use native.Mathlib.Nat.{le_antisymm, eq-or-lt_of_le}
use native.Mathlib.Numerals.{add-one}
use native.Mathlib.Omega.{arith}
use mathlib.Core.Path.{◌≡◌, refl, sym, ap}
use mathlib.Core.Logic.{⊎_elim}
use mathlib.Core.Bool.{Bool, true, false, cond}
use mathlib.Core.List.{List, [], ◌∷◌}
use lib.ListN.{length, get_or, replicate}
use lib.Dec.{eqb, leb, ltb, leb→le, lt→ltb, leb-suc-suc}
use mir.Val.{bool_byte}
use borrow.Author.Tests.{lt-ltb, le-ltb}
use Rattle.lists.specs.Tabulate.{tabulate}
use Rattle.lists.specs.Count.{count, at_most}
use Rattle.lists.proofs.Tabulate.{length-tabulate}
use Rattle.lists.proofs.Count.{Bit, one, none, bit_eq, bit_lt, bit_le, count_mono, count-length}
use Rattle.lists.proofs.Sums.{count-more, count_none}
use Rattle.lists.proofs.CountParts.{count_alike}
use Rattle.model.specs.Rank.{smallest}
use Rattle.model_laws.proofs.Rank.{smallest_by}
use Rattle.histograms.specs.Histogram.{at_level, below_level, histogram, total}
use Rattle.histograms.proofs.Counts.{get_or-histogram}

-- a test that passes what either of two others passes, and they never pass the same
count_either : {A : Type 0} (p q r : A → Bool) → ((x : A) → cond (p x) 1 0 ≡ cond (q x) 1 0 + cond (r x) 1 0) → (xs : List A) → count p xs ≡ count q xs + count r xs
unfolding count
count_either p q r h [] = refl
count_either p q r h (x ∷ xs) = omega (arith, h x, count_either p q r h xs)

-- at most g is below g or of level g
at_most_bit : (x g : ℕ) → cond (leb x g) 1 0 ≡ cond (ltb x g) 1 0 + cond (eqb x g) 1 0
at_most_bit x g = go (bit_le x g) (bit_lt x g) (bit_eq x g)
  where
    go : {n m k : ℕ} → Bit (x ≤ g) (g < x) n → Bit (x < g) (g ≤ x) m → Bit (x ≡ g) (x ≡ g → ⊥) k → n ≡ m + k
    go (one a) (one b) (one e) = absurd (omega arith)
    go (one a) (one b) (none e) = refl
    go (one a) (none b) (one e) = refl
    go (one a) (none b) (none e) = absurd (e (le_antisymm a b))
    go (none a) (one b) e = absurd (omega arith)
    go (none a) (none b) (one e) = absurd (omega arith)
    go (none a) (none b) (none e) = refl

at_most_lem : (g : ℕ) (xs : List ℕ) → at_most g xs ≡ below_level g xs + at_level g xs
at_most_lem g xs = count_either _ _ _ (λ x. at_most_bit x g) xs

-- none is below level 0
below_none : (xs : List ℕ) → below_level 0 xs ≡ 0
unfolding count
below_none [] = refl
below_none (x ∷ xs) = rw (le-ltb x 0 (omega arith), below_none xs)

below_more : (g : ℕ) (xs : List ℕ) → below_level (suc g) xs ≡ below_level g xs + at_level g xs
below_more g xs = simp leb-suc-suc (at_most_lem g xs)

-- ---- as a loop counts them

-- all of them are below a level, or none
pub alike_below : (n x g : ℕ) → x < g → n ≡ below_level g (replicate n x)
alike_below n x g h = rw (count_alike (λ y. ltb y g) n x, lt-ltb x g h) (omega arith)

pub alike_not_below : (n x g : ℕ) → g ≤ x → 0 ≡ below_level g (replicate n x)
alike_not_below n x g h = rw (count_alike (λ y. ltb y g) n x, le-ltb x g h) (omega arith)

-- none is below a level among none
pub below_none_of : (f : ℕ → ℕ) (g : ℕ) → 0 ≡ below_level g (tabulate f 0)
below_none_of f g = sym (count_none (λ x. ltb x g) f)

-- a test's bit as the code has it
byte_bit : (b : Bool) → bool_byte b ≡ cond b 1 0
byte_bit true = refl
byte_bit false = refl

-- and one more, by its bit
pub below-one-more : (f : ℕ → ℕ) (g i n : ℕ) {b : ℕ} → n ≡ below_level g (tabulate f i) → b ≡ bool_byte (ltb (f i) g) → n + b ≡ below_level g (tabulate f (i + 1))
below-one-more f g i n e t = omega (arith, count-more (λ y. ltb y g) f i, t, byte_bit (ltb (f i) g))

-- no more samples are below a level than there are
pub few_below : (f : ℕ → ℕ) (g i n : ℕ) → n ≡ below_level g (tabulate f i) → n ≤ i
few_below f g i n e = omega (arith, count-length (λ x. ltb x g) (tabulate f i), length-tabulate f i)

-- ---- the sum of the first counts

-- nothing before the first
pub total-none : (c : List ℕ) → total c 0 ≡ 0
unfolding total
total-none c = refl

-- one count more
pub total_more : (c : List ℕ) (n : ℕ) → total c (n + 1) ≡ total c n + get_or c n 0
unfolding total
total_more c n = rw add-one

-- where the sum is not 0 there is a level before, and its count is in the sum
pub total_last : (c : List ℕ) (n : ℕ) → 1 ≤ total c n → (1 ≤ n) × (total c n ≡ total c (n - 1) + get_or c (n - 1) 0)
unfolding total
total_last c zero h = absurd (omega arith)
total_last c (suc n) h = let e : suc n - 1 ≡ n = omega arith in (omega arith, rw e refl)

-- where the sum through a level is not all of it there is a level after
pub total_room : (c : List ℕ) (n p : ℕ) → n ≤ 255 → total c n + get_or c n 0 < p → p ≤ total c 256 → n < 255
total_room c n p h k l = ⊎_elim (λ (e : n ≡ 255). absurd (omega (arith, ap (λ (m : ℕ). total c m + get_or c m 0) e, total_more c 255))) (λ (m : n < 255). m) (eq-or-lt_of_le h)

-- the first n counts add up to how many samples are below n
pub total-below : (xs : List ℕ) (n : ℕ) → n ≤ 256 → total (histogram xs) n ≡ below_level n xs
unfolding total
total-below xs zero h = sym (below_none xs)
total-below xs (suc n) h = omega (arith, total-below xs n (omega arith), get_or-histogram xs n h, below_more n xs)

-- through level g: the samples that are at most g
pub total_at_most : (xs : List ℕ) (g : ℕ) → g < 256 → total (histogram xs) (g + 1) ≡ at_most g xs
total_at_most xs g h = rw (add-one, total-below xs (suc g) h, below_more) (sym (at_most_lem g xs))

-- the level that the sum reaches p at
pub smallest-level : (p g : ℕ) (xs : List ℕ) → 1 ≤ p → p ≤ length xs → g < 256 → total (histogram xs) g < p → p ≤ total (histogram xs) (g + 1) → smallest p xs ≡ g
smallest-level p g xs h l k a b = smallest_by p g xs h l (omega (arith, total_at_most xs g k)) (λ w i. omega (arith, total-below xs g (omega arith), count_mono (λ x. leb x w) (λ x. ltb x g) (λ x t. lt→ltb x g (omega (arith, leb→le x w t))) xs))
