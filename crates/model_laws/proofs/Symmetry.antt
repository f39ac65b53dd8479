-- Symmetric taps have symmetric weights exactly where the spare units split no pair (request 2026-06). Assumes nothing.
use Prim.Native.Nat.{ℕ, zero, suc, ◌+◌, ◌≤◌, ◌<◌}
use native.Mathlib.Nat.{eq-zero-or-pos, lt_of_not-le}
use native.Mathlib.Decide.{dec_le}
use native.Mathlib.Omega.{arith}
use mathlib.Core.Path.{◌≡◌, refl, sym, ap, subst, ◌∙◌}
use mathlib.Core.Bool.{Bool, true, false, cond, not, ◌&&◌}
use mathlib.Core.Logic.{◌⊎◌, inl, inr, ⊎_elim}
use mathlib.Core.List.{List, [], ◌∷◌, Memᴰ}
use lib.Dec.{T, ltb, ltb→lt, lt→ltb, eqb→eq, eqb_refl, not_T, T_not}
use lib.ListN.{length}
use lib.IntN.{ℤ, pos, negsuc, neg_ℤ, nat_abs, neg_ℤ-neg_ℤ, +ℤ_idr, +ℤ_invr, ◌+ℤ◌, ◌-ℤ◌, ◌*ℤ◌}
use lib.Signed.{lt_z, ◌<ℤ◌, lt_z_yes, <ℤ_irrefl}
use borrow.Author.Tests.{lt-ltb, le-ltb}
use Rattle.integers.specs.Divide.{floor_div}
use Rattle.integers.proofs.Parts.{pos_part, neg_part, parts_ext, add_parts, sub_parts, neg-parts, abs_parts}
use Rattle.integers.proofs.Order.{lt_of_parts, parts_of_lt}
use Rattle.lists.specs.Count.{count}
use Rattle.lists.proofs.Count.{count_strict}
use Rattle.lists.proofs.Members.{mem_map, of_mem_map, count_every, every_counted, count-some, some-counted, count_either}
use Rattle.model.specs.Kernel.{Tap, tap, Kernel, Rising}
use Rattle.model.specs.Apportion.{quotient, remainder, lacking, distance, comes_before, served_before, gets_unit, share, apportion}
use Rattle.model.specs.Symmetry.{same, opposite, has_opposite, symmetric, units_left, split, unsplit}
use Rattle.model_laws.proofs.Apportion.{Before, before_of, of_before, strict}

-- ---- what the tests say

same-is : (x y : ℤ) → T (same x y) → x ≡ y
unfolding same
same-is x y h = parts_ext x y (omega (arith, eqb→eq (nat_abs (x -ℤ y)) 0 h, abs_parts (x -ℤ y), (sub_parts x y).sum))

is_same : (x : ℤ) → T (same x x)
unfolding same
is_same x = rw (+ℤ_invr x) tt

both : (a b : Bool) → T (a && b) → T a × T b
both true b h = (tt, h)
both false b h = absurd h

and_both : (a b : Bool) → T a → T b → T (a && b)
and_both true b h k = k
and_both false b h k = absurd h

-- the tap on the other side of offset 0
unfoldable pub turned : Tap → Tap
turned t = tap (neg_ℤ t.offset) t.weight

pub turned_turned : (t : Tap) → turned (turned t) ≡ t
unfolding turned tap
turned_turned t = rw (neg_ℤ-neg_ℤ t.offset)

-- with each tap the one on the other side is there
abbrev pub Symmetric : List Tap → Type 0
Symmetric ts = (t : Tap) → Memᴰ t ts → Memᴰ (turned t) ts

opposite-is : (t s : Tap) → T (opposite t s) → turned t ≡ s
unfolding opposite turned tap
opposite-is t s h =
    let p = both (same t.offset (neg_ℤ s.offset)) (same t.weight s.weight) h in
    rw (same-is t.offset (neg_ℤ s.offset) p.0, same-is t.weight s.weight p.1, neg_ℤ-neg_ℤ s.offset)

is-opposite : (t : Tap) → T (opposite t (turned t))
unfolding opposite turned tap
is-opposite t =
    and_both (same t.offset (neg_ℤ (neg_ℤ t.offset))) (same t.weight t.weight) (rw (neg_ℤ-neg_ℤ t.offset) (is_same t.offset)) (is_same t.weight)

opposite_of : (ts : List Tap) (t : Tap) → T (has_opposite ts t) → Memᴰ (turned t) ts
unfolding has_opposite
opposite_of ts t h =
    let found = count-some (opposite t) ts (ltb→lt 0 (count (opposite t) ts) h) in
    rw (opposite-is t found.0 found.2) found.1

of_opposite : (ts : List Tap) (t : Tap) → Memᴰ (turned t) ts → T (has_opposite ts t)
unfolding has_opposite
of_opposite ts t m = lt→ltb 0 (count (opposite t) ts) (some-counted (opposite t) ts (turned t) m (is-opposite t))

pub symmetric_of : (ts : List Tap) → T (symmetric ts) → Symmetric ts
unfolding symmetric
symmetric_of ts h t m = opposite_of ts t (count_every (has_opposite ts) ts (eqb→eq _ _ h) t m)

pub of_symmetric : (ts : List Tap) → Symmetric ts → T (symmetric ts)
unfolding symmetric
of_symmetric ts h = rw (every_counted (has_opposite ts) ts (λ t m. of_opposite ts t (h t m))) (eqb_refl (length ts))

-- ---- the turns of a pair follow one another

distance_turned : (t : Tap) → distance (turned t) ≡ distance t
unfolding distance turned tap
distance_turned t = omega (arith, abs_parts (neg_ℤ t.offset), abs_parts t.offset, neg-parts t.offset)

remainder_turned : (D : ℕ) (t : Tap) → remainder D (turned t) ≡ remainder D t
unfolding remainder turned tap
remainder_turned D t = refl

-- as far from offset 0 as the lower one of a pair, and below the upper one
lower_one : (x o : ℤ) → o <ℤ pos 0 → nat_abs x ≡ nat_abs o → x <ℤ neg_ℤ o → x ≡ o
lower_one x (pos c) l e k = absurd (omega (arith, parts_of_lt l))
lower_one (pos a) (negsuc c) l e k = absurd (omega (arith, e, parts_of_lt k))
lower_one (negsuc b) (negsuc c) l e k = parts_ext (negsuc b) (negsuc c) (omega (arith, e))

-- of taps that rise, one at most lies at an offset
at_most_one : (o : ℤ) (ts : List Tap) → Rising ts → count (λ s. same s.offset o) ts ≤ 1
unfolding count
at_most_one o [] r = omega arith
at_most_one o (t ∷ ts) r = go (same t.offset o) refl (at_most_one o ts r.1)
  where
    no_other : T (same t.offset o) → 0 < count (λ s. same s.offset o) ts → ⊥
    no_other h k =
        let s = count-some (λ s. same s.offset o) ts k in
        let e : s.0.offset ≡ t.offset = same-is s.0.offset o s.2 ∙ sym (same-is t.offset o h) in
        <ℤ_irrefl (rw e at (r.0 s.0 s.1))

    go : (b : Bool) → same t.offset o ≡ b → count (λ s. same s.offset o) ts ≤ 1 → cond b 1 0 + count (λ s. same s.offset o) ts ≤ 1
    go true e l = ⊎_elim (λ z. omega (arith, z)) (λ k. absurd (no_other (rw e tt) k)) (eq-zero-or-pos (count (λ s. same s.offset o) ts))
    go false e l = omega (arith, l)

module _ (K : Kernel) (rising : Rising K.taps) (t : Tap) (m : Memᴰ t K.taps) (low : t.offset <ℤ pos 0) where
  D : ℕ
  D = K.divisor

  below : t.offset <ℤ (turned t).offset
  unfolding turned tap
  below = lt_of_parts t.offset (neg_ℤ t.offset) (omega (arith, parts_of_lt low, neg-parts t.offset))

  first : T (comes_before D t (turned t))
  first = of_before D t (turned t) (inr (remainder_turned D t, inr (sym (distance_turned t), below)))

  -- whoever comes before the upper one comes before the lower one, or is the lower one
  next : (x : Tap) → T (comes_before D x (turned t)) → T (comes_before D x t) ⊎ T (same x.offset t.offset)
  unfolding distance turned tap
  next x h = go (before_of D x (turned t) h)
    where
      go : Before D x (turned t) → T (comes_before D x t) ⊎ T (same x.offset t.offset)
      go (inl k) = inl (of_before D x t (inl (omega (arith, k, remainder_turned D t))))
      go (inr (e, inl k)) = inl (of_before D x t (inr (sym (remainder_turned D t) ∙ e, inl (omega (arith, k, distance_turned t)))))
      go (inr (e, inr (d, k))) = inr (rw (lower_one x.offset t.offset low (d ∙ distance_turned t) k) (is_same t.offset))

  pub one_turn_later : served_before K (turned t) ≡ served_before K t + 1
  unfolding served_before D
  one_turn_later =
      omega (
        arith,
        count_strict (λ x. comes_before D x t) (λ x. comes_before D x (turned t)) (λ x h. (strict D).transitive x t (turned t) h first) t m ((strict D).irreflexive t) first,
        count_either (λ x. comes_before D x (turned t)) (λ x. comes_before D x t) (λ x. same x.offset t.offset) next K.taps,
        at_most_one t.offset K.taps rising,
      )

-- ---- n taps before the lower one, and L units: only the last unit splits the pair

alike : (n : ℕ) (L : ℤ) → T (not (same (L -ℤ pos n) (pos 1))) → lt_z (pos n) L ≡ lt_z (pos (n + 1)) L
unfolding same
alike n (negsuc l) h = refl
alike n (pos l) h = go (dec_le l n) (dec_le (n + 2) l)
  where
    one_left : l ≡ n + 1 → pos l -ℤ pos n ≡ pos 1
    one_left e = parts_ext (pos l -ℤ pos n) (pos 1) (omega (arith, e, (sub_parts (pos l) (pos n)).sum))

    go : Dec (l ≤ n) → Dec (n + 2 ≤ l) → ltb n l ≡ ltb (n + 1) l
    go (yes a) b = le-ltb n l a ∙ sym (le-ltb (n + 1) l (omega (arith, a)))
    go (no a) (yes b) = lt-ltb n l (omega (arith, b)) ∙ sym (lt-ltb (n + 1) l (omega (arith, b)))
    go (no a) (no b) = absurd (T_not (same (pos l -ℤ pos n) (pos 1)) h (rw (one_left (omega (arith, lt_of_not-le a, lt_of_not-le b))) tt))

halved : (n : ℕ) (L : ℤ) → T (same (L -ℤ pos n) (pos 1)) → (lt_z (pos n) L ≡ true) × (lt_z (pos (n + 1)) L ≡ false)
halved n L h =
    let e : L ≡ pos (n + 1) = parts_ext L (pos (n + 1)) (omega (arith, ap pos_part (same-is _ _ h), ap neg_part (same-is _ _ h), (sub_parts L (pos n)).sum)) in
    rw e (lt-ltb n (n + 1) (omega arith), le-ltb (n + 1) (n + 1) (omega arith))

-- what the test of a split pair says
pub record Split (K : Kernel) (t : Tap) : Type 0 where
  pub pair : Memᴰ (turned t) K.taps
  pub low : t.offset <ℤ pos 0
  pub last : T (same (units_left K t) (pos 1))

pub split-is : (K : Kernel) (t : Tap) → T (split K t) → Split K t
unfolding split
split-is K t h =
    let p = both (has_opposite K.taps t) (lt_z t.offset (pos 0) && same (units_left K t) (pos 1)) h in
    let q = both (lt_z t.offset (pos 0)) (same (units_left K t) (pos 1)) p.1 in
    record { pair = opposite_of K.taps t p.0; low = lt_z_yes q.0; last = q.1 }

is-split : (K : Kernel) (t : Tap) → Split K t → T (split K t)
unfolding split
is-split K t s =
    and_both (has_opposite K.taps t) (lt_z t.offset (pos 0) && same (units_left K t) (pos 1)) (of_opposite K.taps t s.pair)
    (and_both (lt_z t.offset (pos 0)) (same (units_left K t) (pos 1)) s.low.lt s.last)

-- two of rising taps at one offset are one
one_at : {s t : Tap} {ts : List Tap} → Rising ts → Memᴰ s ts → Memᴰ t ts → s.offset ≡ t.offset → s ≡ t
one_at r (Memᴰ.head e) (Memᴰ.head d) o = e ∙ sym d
one_at {s = s} {t} r (Memᴰ.head e) (Memᴰ.tail n) o = absurd (<ℤ_irrefl (subst (λ z. z <ℤ t.offset) (ap (λ (x : Tap). x.offset) (sym e) ∙ o) (r.0 t n)))
one_at {s = s} {t} r (Memᴰ.tail m) (Memᴰ.head d) o = absurd (<ℤ_irrefl (subst (λ z. z <ℤ s.offset) (ap (λ (x : Tap). x.offset) (sym d) ∙ sym o) (r.0 s m)))
one_at r (Memᴰ.tail m) (Memᴰ.tail n) o = one_at r.1 m n o

module _ (K : Kernel) (rising : Rising K.taps) where
  module _ (t : Tap) (m : Memᴰ t K.taps) where
    split-units : Split K t → (gets_unit K t ≡ true) × (gets_unit K (turned t) ≡ false)
    unfolding units_left gets_unit
    split-units s = rw (one_turn_later K rising t m s.low) (halved (served_before K t) (lacking K) s.last)

    -- a pair that is split: the lower one has a unit more
    pub split_by_one : Split K t → (share K t).weight ≡ (share K (turned t)).weight +ℤ pos 1
    unfolding share quotient turned tap
    split_by_one s = rw ((split-units s).0, (split-units s).1, +ℤ_idr (floor_div (pos 65536 *ℤ t.weight) K.divisor))

    unsplit-low : (Split K t → ⊥) → Memᴰ (turned t) K.taps → t.offset <ℤ pos 0 → gets_unit K t ≡ gets_unit K (turned t)
    unfolding units_left gets_unit
    unsplit-low n pair low =
        rw (one_turn_later K rising t m low) (alike (served_before K t) (lacking K) (not_T (same (units_left K t) (pos 1)) (λ last. n (record { pair = pair; low = low; last = last }))))

  module _ (even : Symmetric K.taps) where
    -- no pair is split: of each both get a unit, or none does
    module _ (whole : T (unsplit K)) where
      not-split : (t : Tap) → Memᴰ t K.taps → Split K t → ⊥
      unfolding unsplit
      not-split t m s = omega (arith, some-counted (split K) K.taps t m (is-split K t s), eqb→eq (count (split K) K.taps) 0 whole)

      units_alike : (t : Tap) → Memᴰ t K.taps → gets_unit K t ≡ gets_unit K (turned t)
      unfolding turned tap
      units_alike t m = go t.offset refl
        where
          go : (o : ℤ) → t.offset ≡ o → gets_unit K t ≡ gets_unit K (turned t)
          go (pos zero) e = ap (gets_unit K) (rw e refl)
          go (pos (suc n)) e =
              let low : (turned t).offset <ℤ pos 0 = rw e (lt_z_yes tt) in
              sym (unsplit-low (turned t) (even t m) (not-split (turned t) (even t m)) (even (turned t) (even t m)) low ∙ ap (gets_unit K) (turned_turned t))
          go (negsuc n) e = unsplit-low t m (not-split t m) (even t m) (rw e (lt_z_yes tt))

      share_turned : (t : Tap) → Memᴰ t K.taps → turned (share K t) ≡ share K (turned t)
      unfolding share quotient turned tap
      share_turned t m = rw (units_alike t m)

      weights_turned : Symmetric (apportion K)
      unfolding apportion
      weights_turned a m =
          let t = of_mem_map (share K) K.taps a m in
          rw (t.2, share_turned t.0 t.1) (mem_map (share K) (even t.0 t.1))

    -- symmetric weights: a tap and its opposite have the same, so no pair is split
    module _ (weights : Symmetric (apportion K)) where
      same-share : (t : Tap) → Memᴰ t K.taps → (share K t).weight ≡ (share K (turned t)).weight
      unfolding apportion share turned tap
      same-share t m =
          let s = of_mem_map (share K) K.taps (turned (share K t)) (weights (share K t) (mem_map (share K) m)) in
          let e : s.0 ≡ turned t = one_at rising s.1 (even t m) (sym (ap (λ (x : Tap). x.offset) s.2)) in
          ap (λ (x : Tap). x.weight) s.2 ∙ ap (λ x. (share K x).weight) e

      none-split : T (unsplit K)
      unfolding unsplit
      none-split = ⊎_elim (λ z. rw z tt) (λ k. absurd (go (count-some (split K) K.taps k))) (eq-zero-or-pos (count (split K) K.taps))
        where
          go : (t : Tap) × Memᴰ t K.taps × T (split K t) → ⊥
          go (t, m, h) =
              let e = sym (same-share t m) ∙ split_by_one t m (split-is K t h) in
              omega (arith, ap pos_part e, ap neg_part e, (add_parts (share K (turned t)).weight (pos 1)).sum)

-- THE WEIGHTS OF SYMMETRIC TAPS ARE SYMMETRIC where no pair is split, and only there
module _ (K : Kernel) (rising : Rising K.taps) (taps : T (symmetric K.taps)) where
  pub weights-symmetric : T (unsplit K) → T (symmetric (apportion K))
  weights-symmetric whole = of_symmetric (apportion K) (weights_turned K rising (symmetric_of K.taps taps) whole)

  pub weights-unsplit : T (symmetric (apportion K)) → T (unsplit K)
  weights-unsplit weights = none-split K rising (symmetric_of K.taps taps) (symmetric_of (apportion K) weights)
