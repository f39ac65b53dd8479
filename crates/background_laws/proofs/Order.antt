-- NEITHER THE MEAN NOR ITS TOLERANCE DEPENDS ON THE ORDER of the members; and a removal takes out one member and no other. Assumes nothing.
use Prim.Native.Nat.{ℕ, zero, suc, ◌+◌, ◌-◌, ◌≤◌, ◌<◌}
use native.Mathlib.Nat.{le_refl, le_antisymm, not-suc-le-zero}
use native.Mathlib.Omega.{arith}
use mathlib.Core.Path.{◌≡◌, refl, sym, ap, ◌∙◌}
use mathlib.Core.Bool.{Bool, true, false, cond}
use mathlib.Core.List.{List, [], ◌∷◌, ◌++◌, map, map-append}
use lib.ListN.{length, get_or, length-map}
use lib.Seq.{take_all}
use lib.Dec.{ltb, eqb, eqb-zero-suc, eqb-suc-zero, eqb-suc-suc}
use Rattle.integers.specs.Sum.{sum}
use Rattle.lists.specs.Tabulate.{tabulate}
use Rattle.lists.proofs.Count.{Bit, one, none, bit_lt}
use Rattle.lists.proofs.Tabulate.{tabulate_ext, tabulate-get_or}
use Rattle.lists.proofs.Sums.{sum_append, sum_more, map-tabulate}
use Rattle.model.specs.Outline.{largest}
use Rattle.background.specs.Background.{Member, member, Background, samples}
use Rattle.background.specs.Change.{without}
use Rattle.background.specs.Mean.{mean_of, samples_at, mean_raster, mean_tolerance}

-- ---- the same members in another order

-- whatever is summed up over the members, the sums are the same
pub record Same (xs ys : List Member) : Type 0 where
  pub sums : (f : Member → ℕ) → sum (map f xs) ≡ sum (map f ys)

pub same_refl : (xs : List Member) → Same xs xs
same_refl xs = record { sums = λ f. refl }

pub same-sym : {xs ys : List Member} → Same xs ys → Same ys xs
same-sym s = record { sums = λ f. sym (s.sums f) }

pub same_trans : {xs ys zs : List Member} → Same xs ys → Same ys zs → Same xs zs
same_trans s t = record { sums = λ f. s.sums f ∙ t.sums f }

-- with transitivity these two give every order
pub same_cons : (x : Member) {xs ys : List Member} → Same xs ys → Same (x ∷ xs) (x ∷ ys)
unfolding sum
same_cons x s = record { sums = λ f. omega (arith, s.sums f) }

pub same_swap : (x y : Member) (xs : List Member) → Same (x ∷ y ∷ xs) (y ∷ x ∷ xs)
unfolding sum
same_swap x y xs = record { sums = λ f. omega arith }

pub sum_both : {A : Type 0} (f : A → ℕ) (xs ys : List A) → sum (map f (xs ++ ys)) ≡ sum (map f xs) + sum (map f ys)
sum_both f xs ys = rw (map-append f xs ys) (sum_append (map f xs) (map f ys))

pub same_append : {xs ys xs' ys' : List Member} → Same xs xs' → Same ys ys' → Same (xs ++ ys) (xs' ++ ys')
same_append {xs} {ys} {xs'} {ys'} s t = record { sums = λ f. sum_both f xs ys ∙ rw (s.sums f, t.sums f) (sym (sum_both f xs' ys')) }

-- ---- as many, with the same mean at each place

length-sum : (xs : List Member) → length xs ≡ sum (map (λ m. 1) xs)
unfolding sum
length-sum [] = refl
length-sum (x ∷ xs) = omega (arith, length-sum xs)

pub same_length : {xs ys : List Member} → Same xs ys → length xs ≡ length ys
same_length {xs} {ys} s = length-sum xs ∙ s.sums (λ m. 1) ∙ sym (length-sum ys)

pub same-mean : {xs ys : List Member} → Same xs ys → (j : ℕ) → mean_of (samples_at j xs) ≡ mean_of (samples_at j ys)
unfolding mean_of samples_at
same-mean s j = simp (length-map, same_length s, s.sums (λ m. get_or m.raster j 0))

-- backgrounds of one size, with the same members in another order, have one mean still
pub same-raster : (b b' : Background) → Same b.members b'.members → samples b ≡ samples b' → mean_raster b ≡ mean_raster b'
unfolding mean_raster
same-raster b b' s e = rw e (tabulate_ext _ _ (samples b') (λ j l. same-mean s j))

-- ---- the same tolerance

-- 1 for a member with a larger T than v
above : ℕ → Member → ℕ
above v m = cond (ltb v m.tolerance) 1 0

largest-tolerance : List Member → ℕ
largest-tolerance ms = largest (map (λ m. m.tolerance) ms)

none_above : (v : ℕ) (ms : List Member) → largest-tolerance ms ≤ v → sum (map (above v) ms) ≡ 0
unfolding sum largest above largest-tolerance
none_above v [] h = refl
none_above v (m ∷ ms) h = go (bit_lt v m.tolerance) (none_above v ms (omega arith))
  where
    go : {n : ℕ} → Bit (v < m.tolerance) (m.tolerance ≤ v) n → sum (map (above v) ms) ≡ 0 → n + sum (map (above v) ms) ≡ 0
    go (one l) e = absurd (omega (arith, h))
    go (none l) e = omega arith

above_none : (v : ℕ) (ms : List Member) → sum (map (above v) ms) ≡ 0 → largest-tolerance ms ≤ v
unfolding sum largest above largest-tolerance
above_none v [] e = omega arith
above_none v (m ∷ ms) e = go (bit_lt v m.tolerance) e (above_none v ms)
  where
    go : {n : ℕ} → Bit (v < m.tolerance) (m.tolerance ≤ v) n → n + sum (map (above v) ms) ≡ 0 → (sum (map (above v) ms) ≡ 0 → largest-tolerance ms ≤ v)
        → largest-tolerance (m ∷ ms) ≤ v
    go (one l) e h = absurd (omega arith)
    go (none l) e h = omega (arith, h (omega arith))

largest-le : {xs ys : List Member} → Same xs ys → largest-tolerance xs ≤ largest-tolerance ys
largest-le {xs} {ys} s = let v = largest-tolerance ys in above_none v xs (s.sums (above v) ∙ none_above v ys (le_refl v))

pub same-tolerance : {xs ys : List Member} → Same xs ys → mean_tolerance xs ≡ mean_tolerance ys
unfolding mean_tolerance largest-tolerance
same-tolerance s = rw (le_antisymm (largest-le s) (largest-le (same-sym s)))

-- ---- a removal

-- the last entry put at place i, and the one at i added again: all are there
gap_filled : (F : ℕ → ℕ) (i m v : ℕ) → i ≤ m → v ≡ F m → sum (tabulate (λ j. cond (eqb j i) v (F j)) m) + F i ≡ sum (tabulate F m) + v
unfolding sum tabulate
gap_filled F zero zero v h e = omega (arith, e)
gap_filled F (suc i) zero v h e = absurd (not-suc-le-zero h)
gap_filled F zero (suc m) v h e = simp eqb-suc-zero (omega arith)
gap_filled F (suc i) (suc m) v h e = simp (eqb-zero-suc, eqb-suc-suc) (omega (arith, gap_filled (λ j. F (suc j)) i m v (omega arith) e))

module _ (f : Member → ℕ) (ms : List Member) where
  f_at : ℕ → ℕ
  f_at i = f (get_or ms i (member 0 0 []))

  sum-at : sum (map f ms) ≡ sum (tabulate f_at (length ms))
  unfolding f_at
  sum-at = ap (λ (l : List Member). sum (map f l)) (sym (tabulate-get_or ms (member 0 0 []) (length ms) (le_refl _) ∙ take_all (length ms) ms (le_refl _))) ∙ rw map-tabulate

  at_either : (t : Bool) (i j : ℕ) → f_at (cond t i j) ≡ cond t (f_at i) (f_at j)
  at_either true i j = refl
  at_either false i j = refl

  -- the list without place i, entry by entry
  without_entries : (i : ℕ) → sum (map f (without i ms)) ≡ sum (tabulate (λ j. cond (eqb j i) (f_at (length ms - 1)) (f_at j)) (length ms - 1))
  unfolding without f_at
  without_entries i = let last = length ms - 1 in ap sum (map-tabulate f _ last ∙ tabulate_ext _ _ last (λ j l. at_either (eqb j i) last j))

  -- whatever is summed up over the members: without the one at place i, its part is missing
  pub without-sum : (i : ℕ) → i < length ms → sum (map f (without i ms)) + f (get_or ms i (member 0 0 [])) ≡ sum (map f ms)
  unfolding f_at
  without-sum i h =
      let last = length ms - 1 in
      let all : sum (map f ms) ≡ sum (tabulate f_at last) + f_at last = sum-at ∙ ap (λ (n : ℕ). sum (tabulate f_at n)) (omega arith) ∙ sum_more f_at last in
      omega (arith, without_entries i, gap_filled f_at i last (f_at last) (omega arith) refl)
