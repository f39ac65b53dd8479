-- Weights into 65,536ths: each is its floor or one more, they add up to the wanted total, and a tap with remainder 0 gets no unit. Assumes nothing.
use Prim.Native.Nat.{ℕ, ◌+◌, ◌*◌, ◌/◌, ◌≤◌, ◌<◌}
use native.Mathlib.Nat.{le_trans, le_of_mul-le-mul_left, lt_of_mul-lt-mul_left, min-eq_left, eq-or-lt_of_le, div-eq_of_lt-le}
use native.Mathlib.Omega.{arith}
use native.Mathlib.Decide.{dec_le}
use mathlib.Core.Path.{◌≡◌, refl, sym, ap, ◌∙◌}
use mathlib.Core.Bool.{Bool, true, false, cond, not, ◌&&◌, ◌||◌}
use mathlib.Core.Logic.{◌⊎◌, inl, inr, ⊎_elim}
use mathlib.Core.List.{List, [], ◌∷◌, map}
use lib.ListN.{length}
use lib.Dec.{T, ltb, eqb, ltb→lt, lt→ltb, eqb→eq, eqb_refl, not_T}
use lib.Arith.{le→nltb}
use lib.IntN.{ℤ, pos, negsuc, ◌+ℤ◌, ◌*ℤ◌}
use lib.Signed.{◌<ℤ◌, lt_z_yes, <ℤ_irrefl}
use Rattle.integers.specs.Sum.{sum, sumℤ}
use Rattle.integers.proofs.Parts.{Parts, pos_part, neg_part, add_parts, sub_parts, mul-parts, add-add, add_sub}
use Rattle.integers.proofs.Order.{<ℤ-trans}
use Rattle.integers.proofs.Divide.{divided, Floor, floor_law}
use Rattle.lists.specs.Count.{count}
use Rattle.lists.proofs.Count.{Bit, one, none, bit_lt, bit_one, bit_false, count_mono, count_ext, count-length}
use Rattle.lists.proofs.Order.{Strict, Settled, served}
use Rattle.model.specs.Kernel.{Tap, tap, Kernel, total, Rising}
use Rattle.model.specs.Apportion.{quotient, remainder, rounded, rounded_taps, wanted_total, lacking, distance, nearer, comes_before, served_before, gets_unit, share, apportion}

-- each weight is its floor or one more
pub share_floor : (K : Kernel) (t : Tap)
    → ((share K t).weight ≡ quotient K.divisor t +ℤ pos 0) ⊎ ((share K t).weight ≡ quotient K.divisor t +ℤ pos 1)
unfolding share tap
share_floor K t = go (gets_unit K t)
  where
    go : (b : Bool) → (quotient K.divisor t +ℤ pos (cond b 1 0) ≡ quotient K.divisor t +ℤ pos 0) ⊎ (quotient K.divisor t +ℤ pos (cond b 1 0) ≡ quotient K.divisor t +ℤ pos 1)
    go true = inr refl
    go false = inl refl

-- ---- the order of service is strict, and rising offsets settle it

either : (a b c : Bool) → T a ⊎ (T b × T c) → T (a || b && c)
either true b c h = tt
either false true c (inr h) = h.1
either false true c (inl h) = absurd h
either false false c (inl h) = absurd h
either false false c (inr h) = absurd h.0

or_else : (a b c : Bool) → T (a || b && c) → T a ⊎ (T b × T c)
or_else true b c h = inl tt
or_else false true c h = inr (tt, h)
or_else false false c h = absurd h

-- a number decides, and where the two are equal P does
abbrev pub Then : ℕ → ℕ → Type 0 → Type 0
Then a b P = (a < b) ⊎ ((a ≡ b) × P)

then_of : (a b : ℕ) (e : Bool) → T (ltb a b || eqb a b && e) → Then a b (T e)
then_of a b e h = ⊎_elim (λ l. inl (ltb→lt a b l)) (λ k. inr (eqb→eq a b k.0, k.1)) (or_else (ltb a b) (eqb a b) e h)

of_then : (a b : ℕ) (e : Bool) → Then a b (T e) → T (ltb a b || eqb a b && e)
of_then a b e h = either (ltb a b) (eqb a b) e (⊎_elim (λ l. inl (lt→ltb a b l)) (λ k. inr (rw k.0 (eqb_refl b), k.1)) h)

then_by : {a b : ℕ} {P Q : Type 0} → (P → Q) → Then a b P → Then a b Q
then_by f h = ⊎_elim inl (λ k. inr (k.0, f k.1)) h

then_trans : {a b c : ℕ} {P Q R : Type 0} → (P → Q → R) → Then a b P → Then b c Q → Then a c R
then_trans f (inl h) (inl k) = inl (omega arith)
then_trans f (inl h) (inr k) = inl (omega (arith, k.0))
then_trans f (inr h) (inl k) = inl (omega (arith, h.0))
then_trans f (inr h) (inr k) = inr (h.0 ∙ k.0, f h.1 k.1)

then_irreflexive : {a : ℕ} {P : Type 0} → (P → ⊥) → Then a a P → ⊥
then_irreflexive n (inl h) = omega arith
then_irreflexive n (inr h) = n h.1

then_settled : (a b : ℕ) {P Q : Type 0} → P ⊎ Q → Then a b P ⊎ Then b a Q
then_settled a b {P} {Q} h = go (dec_le a b)
  where
    go : Dec (a ≤ b) → Then a b P ⊎ Then b a Q
    go (yes l) = ⊎_elim (λ e. ⊎_elim (λ p. inl (inr (e, p))) (λ q. inr (inr (sym e, q))) h) (λ k. inl (inl k)) (eq-or-lt_of_le l)
    go (no l) = inr (inl (omega arith))

-- what the two tests say
abbrev pub Nearer : Tap → Tap → Type 0
Nearer s t = Then (distance s) (distance t) (s.offset <ℤ t.offset)

abbrev pub Before : ℕ → Tap → Tap → Type 0
Before D s t = Then (remainder D t) (remainder D s) (Nearer s t)

nearer_of : (s t : Tap) → T (nearer s t) → Nearer s t
unfolding nearer
nearer_of s t h = then_by lt_z_yes (then_of (distance s) (distance t) _ h)

of_nearer : (s t : Tap) → Nearer s t → T (nearer s t)
unfolding nearer
of_nearer s t h = of_then (distance s) (distance t) _ (then_by (λ l. l.lt) h)

nearer_trans : (x y z : Tap) → Nearer x y → Nearer y z → Nearer x z
nearer_trans x y z h k = then_trans (λ l m. <ℤ-trans l m) h k

module _ (D : ℕ) where
  pub before_of : (s t : Tap) → T (comes_before D s t) → Before D s t
  unfolding comes_before
  before_of s t h = then_by (nearer_of s t) (then_of (remainder D t) (remainder D s) _ h)

  pub of_before : (s t : Tap) → Before D s t → T (comes_before D s t)
  unfolding comes_before
  of_before s t h = of_then (remainder D t) (remainder D s) _ (then_by (of_nearer s t) h)

  irreflexive : (x : Tap) → Before D x x → ⊥
  irreflexive x h = then_irreflexive (then_irreflexive <ℤ_irrefl) h

  transitive : (x y z : Tap) → Before D x y → Before D y z → Before D x z
  transitive x y z h k = then_trans (λ m l. nearer_trans x y z l m) k h

  pub strict : Strict (comes_before D)
  strict = record {
    irreflexive = λ x. not_T (comes_before D x x) (λ h. irreflexive x (before_of x x h));
    transitive = λ x y z h k. of_before x z (transitive x y z (before_of x y h) (before_of y z k));
  }

  settle : (s t : Tap) → t.offset <ℤ s.offset → Before D t s ⊎ Before D s t
  settle s t l = then_settled (remainder D s) (remainder D t) (then_settled (distance t) (distance s) (inl l))

  settled : (ts : List Tap) → Rising ts → Settled (comes_before D) ts
  settled [] r = tt
  settled (t ∷ ts) r = ((λ s m. ⊎_elim (λ h. inl (of_before t s h)) (λ h. inr (of_before s t h)) (settle s t (r.0 s m))), settled ts r.1)

-- ---- as many units are lacking as taps are rounded, at most

-- no more taps are rounded than there are
pub rounded-le : (K : Kernel) → rounded_taps K ≤ length K.taps
unfolding rounded_taps
rounded-le K = count-length (rounded K.divisor) K.taps

module _ (D : ℕ) (hD : 0 < D) where
  -- D times the quotients and the remainders make 65,536 times the weights
  whole : (ts : List Tap)
      → D * pos_part (sumℤ (map (quotient D) ts)) + sum (map (remainder D) ts) + 65536 * neg_part (total ts) ≡ 65536 * pos_part (total ts) + D * neg_part (sumℤ (map (quotient D) ts))
  unfolding sumℤ sum total quotient remainder
  whole [] = omega arith
  whole (t ∷ ts) =
      omega (
        arith,
        (divided (pos 65536 *ℤ t.weight) D hD).whole,
        mul-parts (pos 65536) t.weight,
        add_parts t.weight (sumℤ (map (λ s. s.weight) ts)),
        ap (λ (n : ℕ). D * n) (add_parts (quotient D t) (sumℤ (map (quotient D) ts))).sum,
        whole ts,
      )

  remainder_small : (t : Tap) → remainder D t < D
  unfolding remainder
  remainder_small t = (divided (pos 65536 *ℤ t.weight) D hD).small

  -- and 0 where the tap is not rounded
  pub remainder-rounded : (t : Tap) → remainder D t ≤ D * cond (rounded D t) 1 0
  unfolding rounded
  remainder-rounded t = go (bit_lt 0 (remainder D t))
    where
      go : {n : ℕ} → Bit (0 < remainder D t) (remainder D t ≤ 0) n → remainder D t ≤ D * n
      go (one h) = omega (arith, remainder_small t)
      go (none h) = omega arith

  remainders_small : (ts : List Tap) → sum (map (remainder D) ts) ≤ D * count (rounded D) ts
  unfolding sum count
  remainders_small [] = omega arith
  remainders_small (t ∷ ts) = omega (arith, remainder-rounded t, remainders_small ts)

-- L units are lacking: none is owed, and no more than taps are rounded
pub record Lacking (K : Kernel) (L : ℕ) : Type 0 where
  pub is : lacking K ≡ pos L
  pub few : L ≤ rounded_taps K

module _ (K : Kernel) (hD : 0 < K.divisor) where
  D : ℕ
  D = K.divisor

  Q : ℤ
  Q = sumℤ (map (quotient K.divisor) K.taps)

  S : ℤ
  S = total K.taps

  Y : ℤ
  Y = wanted_total K

  R : ℕ
  R = sum (map (remainder K.divisor) K.taps)

  Y-floor : Floor (pos 131072 *ℤ S +ℤ pos D) (2 * D) Y
  unfolding Y S D wanted_total
  Y-floor = floor_law (pos 131072 *ℤ total K.taps +ℤ pos K.divisor) (2 * K.divisor) (omega arith)

  Q-whole : D * pos_part Q + R + 65536 * neg_part S ≡ 65536 * pos_part S + D * neg_part Q
  unfolding D Q R S
  Q-whole = whole K.divisor hD K.taps

  R-small : R ≤ D * rounded_taps K
  unfolding D R rounded_taps
  R-small = remainders_small K.divisor hD K.taps

  high : 2 * pos_part Y + 2 * neg_part Q ≤ 2 * pos_part Q + 2 * neg_part Y + 2 * rounded_taps K + 1
  unfolding D
  high = le_of_mul-le-mul_left {k = K.divisor} (omega (arith, Y-floor, add_parts (pos 131072 *ℤ S) (pos D), mul-parts (pos 131072) S, Q-whole, R-small)) hD

  low : 2 * pos_part Q + 2 * neg_part Y + 1 < 2 * pos_part Y + 2 * neg_part Q + 2
  unfolding D
  low = lt_of_mul-lt-mul_left K.divisor (omega (arith, Y-floor, add_parts (pos 131072 *ℤ S) (pos D), mul-parts (pos 131072) S, Q-whole))

  gap : Parts (lacking K) (pos_part Y + neg_part Q) (neg_part Y + pos_part Q)
  unfolding lacking Y Q
  gap = sub_parts (wanted_total K) (sumℤ (map (quotient K.divisor) K.taps))

  pub lacking_few : (L : ℕ) × Lacking K L
  unfolding D
  lacking_few = go (lacking K) refl gap
    where
      go : (z : ℤ) → lacking K ≡ z → Parts z (pos_part Y + neg_part Q) (neg_part Y + pos_part Q) → (L : ℕ) × Lacking K L
      go (pos L) e g = (L, record { is = e; few = omega (arith, high) })
      go (negsuc L) e g = absurd (omega (arith, low))

  -- the units that are lacking are the remainders' sum over D, rounded, halves upward
  pub lacking_by_remainders : lacking K ≡ pos ((2 * sum (map (remainder K.divisor) K.taps) + K.divisor) / (2 * K.divisor))
  unfolding D R
  lacking_by_remainders = go (lacking K) refl gap (lacking_few)
    where
      go : (z : ℤ) → lacking K ≡ z → Parts z (pos_part Y + neg_part Q) (neg_part Y + pos_part Q) → (L : ℕ) × Lacking K L → lacking K ≡ pos ((2 * R + D) / (2 * D))
      go (pos L) e g l =
          e
          ∙ ap pos
          (sym
          (div-eq_of_lt-le (2 * D)
          (omega (arith, Y-floor, add_parts (pos 131072 *ℤ S) (pos D), mul-parts (pos 131072) S, Q-whole, ap (λ (n : ℕ). D * n) g.sum))
          (omega (arith, Y-floor, add_parts (pos 131072 *ℤ S) (pos D), mul-parts (pos 131072) S, Q-whole, ap (λ (n : ℕ). D * n) g.sum))))
      go (negsuc L) e g (k, l) = let z : pos k ≡ negsuc L = sym l.is ∙ e in let y : ◌≡◌ {A = ℕ} 0 1 = cc in absurd (omega arith)

  -- the order of service hands out as many units as are lacking
  units : Rising K.taps → pos (count (gets_unit K) K.taps) ≡ lacking K
  unfolding gets_unit served_before
  units r = go lacking_few
    where
      go : (L : ℕ) × Lacking K L → pos (count (gets_unit K) K.taps) ≡ lacking K
      go (L, l) =
          ap pos
          (count_ext (gets_unit K) (λ t. ltb (count (λ s. comes_before K.divisor s t) K.taps) L) K.taps (λ t m. rw l.is)
          ∙ served (comes_before K.divisor) (strict K.divisor) L K.taps (settled K.divisor K.taps r)
          ∙ min-eq_left (le_trans l.few (rounded-le K)))
          ∙ sym l.is

total_shares : (K : Kernel) (ts : List Tap) → total (map (share K) ts) ≡ sumℤ (map (quotient K.divisor) ts) +ℤ pos (count (gets_unit K) ts)
unfolding total sumℤ count share tap
total_shares K [] = refl
total_shares K (t ∷ ts) =
    rw (total_shares K ts)
    (add-add (quotient K.divisor t) (pos (cond (gets_unit K t) 1 0)) (sumℤ (map (quotient K.divisor) ts)) (pos (count (gets_unit K) ts)))

-- the weights add up to the wanted total
pub apportion-total : (K : Kernel) → 0 < K.divisor → Rising K.taps → total (apportion K) ≡ wanted_total K
unfolding apportion lacking
apportion-total K hD r = rw (total_shares K K.taps, units K hD r) (add_sub (sumℤ (map (quotient K.divisor) K.taps)) (wanted_total K))

-- a tap with remainder 0 gets no unit: all that have one come before it
pub no_unit : (K : Kernel) (t : Tap) → 0 < K.divisor → remainder K.divisor t ≡ 0 → T (not (gets_unit K t))
unfolding gets_unit served_before rounded rounded_taps
no_unit K t hD e = go (lacking_few K hD)
  where
    ahead : rounded_taps K ≤ count (λ s. comes_before K.divisor s t) K.taps
    ahead = count_mono (rounded K.divisor) (λ s. comes_before K.divisor s t)
        (λ s h. of_before K.divisor s t (inl (omega (arith, ltb→lt 0 (remainder K.divisor s) h)))) K.taps

    go : (L : ℕ) × Lacking K L → T (not (gets_unit K t))
    go (L, l) = rw l.is (le→nltb (count (λ s. comes_before K.divisor s t) K.taps) L (le_trans l.few ahead))

-- so only a rounded tap gets one
pub unit_rounded : (K : Kernel) (t : Tap) → 0 < K.divisor → cond (gets_unit K t) 1 0 ≤ cond (rounded K.divisor t) 1 0
unfolding rounded
unit_rounded K t hD = go (bit_lt 0 (remainder K.divisor t))
  where
    go : {n : ℕ} → Bit (0 < remainder K.divisor t) (remainder K.divisor t ≤ 0) n → cond (gets_unit K t) 1 0 ≤ n
    go (one h) = bit_one (gets_unit K t)
    go (none h) = omega (arith, bit_false (gets_unit K t) (no_unit K t hD (omega arith)))
