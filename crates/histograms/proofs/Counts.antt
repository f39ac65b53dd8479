-- Laws of counts: samples counted more, and taken off. Assumes nothing.
use Prim.Native.Nat.{ℕ, ◌+◌, ◌*◌, ◌≤◌, ◌<◌}
use native.Mathlib.Nat.{lt_of_not-le}
use native.Mathlib.Omega.{arith}
use native.Mathlib.Decide.{dec_le}
use mathlib.Core.Path.{◌≡◌, sym, ap, ◌∙◌}
use mathlib.Core.Bool.{cond}
use mathlib.Core.List.{List, [], ◌∷◌, ◌++◌}
use lib.ListN.{length, get_or, set, replicate, length-set, get_or-eq_default}
use lib.Seq.{ext_get_or, get_or-set_same, get_or-set_other, take_all}
use lib.Dec.{eqb}
use Rattle.lists.specs.Tabulate.{tabulate}
use Rattle.lists.specs.Count.{count}
use Rattle.lists.proofs.Tabulate.{length-tabulate, get_d_tabulate, tabulate_ext, tabulate-get_or, tabulate_last, tabulate_const}
use Rattle.lists.proofs.Count.{Bit, one, none, bit_eq, bit_same, count-length}
use Rattle.lists.proofs.Sums.{count-more}
use Rattle.lists.proofs.CountParts.{count_append, count_alike, count_front}
use Rattle.histograms.specs.Histogram.{at_level, counted, histogram}

-- ---- some samples more

pub length-counted : (c xs : List ℕ) → length (counted c xs) ≡ 256
unfolding counted
length-counted c xs = length-tabulate _ 256

pub get_or-counted : (c xs : List ℕ) (g : ℕ) → g < 256 → get_or (counted c xs) g 0 ≡ get_or c g 0 + at_level g xs
unfolding counted
get_or-counted c xs g h = get_d_tabulate _ 256 g 0 h

-- behind the last level there is no count
no_count : (l : List ℕ) (g : ℕ) → length l ≡ 256 → 256 ≤ g → get_or l g 0 ≡ 0
no_count l g size h = get_or-eq_default l 0 {n = g} (rw size h)

-- a count grows by at most the number of samples
pub counted-le : (c l xs : List ℕ) (g : ℕ) → l ≡ counted c xs → get_or l g 0 ≤ get_or c g 0 + length xs
counted-le c l xs g e = rw e (go (dec_le 256 g))
  where
    go : Dec (256 ≤ g) → get_or (counted c xs) g 0 ≤ get_or c g 0 + length xs
    go (yes h) = omega (arith, no_count (counted c xs) g (length-counted c xs) h)
    go (no h) = omega (arith, get_or-counted c xs g (lt_of_not-le h), count-length (λ x. eqb x g) xs)

-- and it was no more before
pub counted_ge : (c l xs : List ℕ) (g : ℕ) → length c ≡ 256 → l ≡ counted c xs → get_or c g 0 ≤ get_or l g 0
counted_ge c l xs g size e = rw e (go (dec_le 256 g))
  where
    go : Dec (256 ≤ g) → get_or c g 0 ≤ get_or (counted c xs) g 0
    go (yes h) = omega (arith, no_count c g size h)
    go (no h) = omega (arith, get_or-counted c xs g (lt_of_not-le h))

-- no sample yet
pub counted_none : (c : List ℕ) (f : ℕ → ℕ) → length c ≡ 256 → c ≡ counted c (tabulate f 0)
unfolding counted count tabulate
counted_none c f e = sym (tabulate_ext (λ g. get_or c g 0 + 0) (λ g. get_or c g 0) 256 (λ g _. omega arith) ∙ tabulate-get_or c 0 256 (omega arith) ∙ take_all 256 c (omega arith))

-- counts by their entries
counted_by : (c l xs : List ℕ) → length l ≡ 256 → ((g : ℕ) → g < 256 → get_or l g 0 ≡ get_or c g 0 + at_level g xs) → l ≡ counted c xs
counted_by c l xs size e = ext_get_or 0 _ _ (size ∙ sym (length-counted c xs)) (λ g k. e g (omega (arith, size)) ∙ sym (get_or-counted c xs g (omega (arith, size))))

-- some samples counted after others
pub counted_then : (c l m xs ys : List ℕ) → l ≡ counted c xs → m ≡ counted l ys → m ≡ counted c (xs ++ ys)
counted_then c l m xs ys e q = counted_by c m (xs ++ ys) (rw q (length-counted l ys)) (λ g k. rw q (omega (arith, get_or-counted l ys g k, ap (λ (n : List ℕ). get_or n g 0) e, get_or-counted c xs g k, count_append (λ y. eqb y g) xs ys)))

-- some samples taken off after others
pub counted-before : (c l m xs ys : List ℕ) → c ≡ counted l xs → l ≡ counted m ys → c ≡ counted m (xs ++ ys)
counted-before c l m xs ys e q = counted_by m c (xs ++ ys) (rw e (length-counted l xs)) (λ g k. rw e (omega (arith, get_or-counted l xs g k, ap (λ (n : List ℕ). get_or n g 0) q, get_or-counted m ys g k, count_append (λ y. eqb y g) xs ys)))

-- ---- one level's count stored anew

-- more or fewer at its level, and the others as they were
changed : (l : List ℕ) (x v g a b : ℕ) {n : ℕ} → x < length l → v + a ≡ get_or l x 0 + b → Bit (x ≡ g) (x ≡ g → ⊥) n → get_or (set l x v) g 0 + a * n ≡ get_or l g 0 + b * n
changed l x v g a b h e (one q) = rw (← q) (omega (arith, get_or-set_same l x v 0 h))
changed l x v g a b h e (none q) = omega (arith, get_or-set_other l x g v 0 (λ r. q (sym r)))

module _ (x n v : ℕ) (l : List ℕ) (h : x < 256) (size : length l ≡ 256) where
  -- n samples of one level counted in one step
  pub counted_alike : v ≡ get_or l x 0 + n → set l x v ≡ counted l (replicate n x)
  counted_alike w = counted_by l (set l x v) (replicate n x) (length-set l x v ∙ size) (λ g k. omega (arith, changed l x v g 0 n (omega (arith, size)) (omega arith) (bit_eq x g), count_alike (λ y. eqb y g) n x))

  -- and taken off
  pub taken_alike : v + n ≡ get_or l x 0 → l ≡ counted (set l x v) (replicate n x)
  taken_alike w = counted_by (set l x v) l (replicate n x) size (λ g k. omega (arith, changed l x v g n 0 (omega (arith, size)) (omega arith) (bit_eq x g), count_alike (λ y. eqb y g) n x))

-- samples alike are all of their level
pub alike_all : (n x m : ℕ) → at_level x (replicate n x) ≤ m → n ≤ m
alike_all n x m h = omega (arith, count_alike (λ y. eqb y x) n x, ap (λ (k : ℕ). n * k) (bit_same x))

-- samples alike that are still to be taken off are still counted
pub alike_counted : (c l xs : List ℕ) (n x : ℕ) → x < 256 → c ≡ counted l xs → at_level x (xs ++ replicate n x) ≤ get_or c x 0 → n ≤ get_or l x 0
alike_counted c l xs n x h e w = omega (arith, ap (λ (m : List ℕ). get_or m x 0) e, get_or-counted l xs x h, count_append (λ y. eqb y x) xs (replicate n x), count_alike (λ y. eqb y x) n x, ap (λ (m : ℕ). n * m) (bit_same x))

module _ (f : ℕ → ℕ) (i x : ℕ) (h : x < 256) (q : x ≡ f i) where
  -- the next of the samples f 0, f 1, .. counted
  pub counted-more : (c l : List ℕ) (v : ℕ) → l ≡ counted c (tabulate f i) → v ≡ get_or l x 0 + 1 → set l x v ≡ counted c (tabulate f (i + 1))
  counted-more c l v e w = rw (tabulate_last f i x q) (counted_then c l (set l x v) (tabulate f i) (x ∷ []) e (counted_alike x 1 v l h (rw e (length-counted c _)) w))

  -- and taken off
  pub taken_more : (c l : List ℕ) (v : ℕ) → length l ≡ 256 → c ≡ counted l (tabulate f i) → v + 1 ≡ get_or l x 0 → c ≡ counted (set l x v) (tabulate f (i + 1))
  taken_more c l v size e w = rw (tabulate_last f i x q) (counted-before c l (set l x v) (tabulate f i) (x ∷ []) e (taken_alike x 1 v l h size w))

  -- a sample that is still to be taken off is still counted
  pub still-counted : (c l : List ℕ) (n : ℕ) → i < n → c ≡ counted l (tabulate f i) → at_level x (tabulate f n) ≤ get_or c x 0 → 1 ≤ get_or l x 0
  still-counted c l n k e w = omega (arith, ap (λ (m : List ℕ). get_or m x 0) e, get_or-counted l (tabulate f i) x h, count-more (λ y. eqb y x) f i, ap (λ (z : ℕ). cond {A = ℕ} (eqb z x) 1 0) q, bit_same x, count_front (λ y. eqb y x) f (i + 1) n (omega arith))

-- ---- the counts of some samples

-- they are counted from nothing
is-counted : (xs : List ℕ) → histogram xs ≡ counted [] xs
unfolding histogram counted
is-counted xs = tabulate_ext _ _ 256 (λ g _. omega arith)

pub length-histogram : (l xs : List ℕ) → l ≡ histogram xs → length l ≡ 256
length-histogram l xs e = rw (e, is-counted) (length-counted [] xs)

-- the count of one level
pub get_or-histogram : (xs : List ℕ) (g : ℕ) → g < 256 → get_or (histogram xs) g 0 ≡ at_level g xs
get_or-histogram xs g h = rw is-counted (omega (arith, get_or-counted [] xs g h))

-- counts by their entries
pub histogram_by : (l xs : List ℕ) → length l ≡ 256 → ((g : ℕ) → g < 256 → get_or l g 0 ≡ at_level g xs) → l ≡ histogram xs
histogram_by l xs size e = counted_by [] l xs size (λ g k. omega (arith, e g k)) ∙ sym (is-counted xs)

-- a count is at most the number of samples
pub histogram-le : (l xs : List ℕ) (g : ℕ) → l ≡ histogram xs → get_or l g 0 ≤ length xs
histogram-le l xs g e = omega (arith, counted-le [] l xs g (e ∙ is-counted xs))

-- 256 zeros
pub zeros : (l : List ℕ) (n : ℕ) → n ≡ 256 → l ≡ replicate n 0 → l ≡ histogram []
unfolding histogram count
zeros l n h e = rw (e, h) (sym (tabulate_const 0 256))

-- some samples counted after others
pub histogram_then : (l m xs ys : List ℕ) → l ≡ histogram xs → m ≡ counted l ys → m ≡ histogram (xs ++ ys)
histogram_then l m xs ys e q = counted_then [] l m xs ys (e ∙ is-counted xs) q ∙ sym (is-counted (xs ++ ys))
