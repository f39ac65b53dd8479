-- Motions counted one more at a time, and all of them. Assumes nothing.
use Prim.Native.Nat.{ℕ, ◌+◌, ◌-◌, ◌*◌, ◌≤◌}
use native.Mathlib.Nat.{le_antisymm}
use native.Mathlib.Omega.{arith}
use mathlib.Core.Path.{◌≡◌, refl, sym, ap, ◌∙◌}
use mathlib.Core.Bool.{Bool, true, false, cond}
use mathlib.Core.List.{List}
use lib.ListN.{length, get_or}
use lib.Dec.{leb, ltb}
use mir.Val.{bool_byte}
use Rattle.lists.specs.Tabulate.{tabulate}
use Rattle.lists.proofs.Tabulate.{length-tabulate}
use Rattle.lists.proofs.Sums.{count-more}
use Rattle.model.specs.Within.{distance}
use Rattle.movement.specs.Motion.{Motion, surely_moved, surely_still, motion}
use Rattle.movement.specs.Motions.{motions, is_moved, is_still, moved_count, still_count, Counted}
use Rattle.movement_laws.proofs.Counting.{counts-add-up, is_moved_lem, is-still}

-- the motion at a place
abbrev pub at : ℕ → ℕ → ℕ → List ℕ → List ℕ → ℕ → Motion
at L T T' xs ys i = motion L T T' (get_or xs i 0) (get_or ys i 0)

-- a test's bit, as a number
bit : (b : Bool) → cond b 1 0 ≡ bool_byte b
bit true = refl
bit false = refl

module _ (L T T' : ℕ) (xs ys : List ℕ) where
  -- no count passes the number of samples
  pub tally_fits : (i : ℕ) → moved_count (tabulate (at L T T' xs ys) i) + still_count (tabulate (at L T T' xs ys) i) ≤ i
  tally_fits i = omega (arith, counts-add-up (tabulate (at L T T' xs ys) i), length-tabulate (at L T T' xs ys) i)

  -- one sample more, d 65,536ths apart
  module _ (i : ℕ) {d : ℕ} (e : d ≡ 65536 * distance (get_or xs i 0) (get_or ys i 0)) where
    pub moved_more : {m k : ℕ} → m ≡ moved_count (tabulate (at L T T' xs ys) i) → k ≡ bool_byte (ltb (65536 * L + (T + T')) d) → m + k ≡ moved_count (tabulate (at L T T' xs ys) (i + 1))
    unfolding surely_moved
    moved_more f g = rw (g, e, f) (sym (count-more is_moved (at L T T' xs ys) i ∙ rw (is_moved_lem L T T' (get_or xs i 0) (get_or ys i 0), bit)))

    pub still-more : {s k : ℕ} → s ≡ still_count (tabulate (at L T T' xs ys) i) → k ≡ bool_byte (leb (d + (T + T')) (65536 * L)) → s + k ≡ still_count (tabulate (at L T T' xs ys) (i + 1))
    unfolding surely_still
    still-more f g = rw (g, e, f) (sym (count-more is_still (at L T T' xs ys) i ∙ rw (is-still L T T' (get_or xs i 0) (get_or ys i 0), bit)))

  -- all samples: what has neither moved nor is still is open
  pub tallied : {i m s : ℕ} → i ≤ length xs → length xs ≤ i → m ≡ moved_count (tabulate (at L T T' xs ys) i) → s ≡ still_count (tabulate (at L T T' xs ys) i)
      → Counted (motions L T T' xs ys) m s (length xs - m - s)
  unfolding motions
  tallied {i} a b f g =
      let all : i ≡ length xs = le_antisymm a b in
      let m = f ∙ ap (λ (n : ℕ). moved_count (tabulate (at L T T' xs ys) n)) all in
      let s = g ∙ ap (λ (n : ℕ). still_count (tabulate (at L T T' xs ys) n)) all in
      record { moved-are = m; still-are = s; open-are = omega (arith, m, s, counts-add-up (tabulate (at L T T' xs ys) (length xs)), length-tabulate (at L T T' xs ys) (length xs)) }
