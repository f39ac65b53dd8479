-- The rows of a table that are held, from the first on: each new one takes the place of the oldest. Assumes nothing.
use Prim.Native.Nat.{ℕ, ◌+◌, ◌-◌, ◌%◌, ◌^◌, ◌≤◌, ◌<◌}
use native.Mathlib.Nat.{le_refl, mod-eq_of_lt, eq-or-lt_of_le}
use native.Mathlib.Omega.{arith}
use mathlib.Core.Path.{◌≡◌, sym, ◌∙◌}
use mathlib.Core.Logic.{◌⊎◌, inl, inr, ⊎_elim}
use mathlib.Core.List.{List, ◌++◌}
use lib.ListN.{length, get_or, take, drop, replicate, get_or-append}
use Rattle.std.proofs.lemmas.List.{length-replicate, get_or-replicate}
use Rattle.integers.specs.Sum.{sum}
use Rattle.lists.specs.Tabulate.{tabulate}
use Rattle.lists.proofs.StoredAt.{stored, at_stored, before_stored, behind_stored}
use Rattle.frame.specs.declared.Frame.{Frame}
use Rattle.frame.specs.Padded.{padded}
use Rattle.table_sizes.specs.Ring.{table_width, ring_rows, ring_size, row_start}
use Rattle.table_sizes.proofs.Places.{place_inside, rows_apart}
use Rattle.area_tables.specs.Table.{entry}
use Rattle.area_tables.specs.HeldTable.{HeldTable}
use Rattle.area_tables.proofs.Entries.{entry-none, entry_more}

-- the table's first row lies at the front
pub first_place : (w r s : ℕ) → row_start w r s 0 ≡ 0
first_place w r s = let none : 0 % ring_rows s ≡ 0 = mod-eq_of_lt (omega arith) in rw none (omega arith)

-- a row's place ends inside the ring
pub place_fits : (w r s y : ℕ) {m : ℕ} → ring_size w r s ≤ m → row_start w r s y + table_width w r ≤ m
place_fits w r s y h = omega (arith, h, place_inside (ring_rows s) (table_width w r) (omega arith) y)

-- the next row's place is apart from a row's
pub next_apart : (w r s y : ℕ) → (row_start w r s (y + 1) ≤ row_start w r s y) ⊎ (row_start w r s y + table_width w r ≤ row_start w r s (y + 1))
next_apart w r s y = ⊎_elim (λ h. inr h) (λ h. inl (omega (arith, h))) (rows_apart (ring_rows s) (table_width w r) y (y + 1) (omega arith) (omega arith) (omega arith))

module _ (f : Frame) (r s : ℕ) (samples : List ℕ) where
  -- a front of zeros is the table's first row
  pub held_first : (rest l : List ℕ) → l ≡ replicate (table_width f.width r) 0 ++ rest → HeldTable f r s samples 0 l
  held_first rest l e = record {
    held = λ i y a b c.
        let none : y ≡ 0 = omega (arith, b) in
        let place : 0 + i ≡ i = omega arith in
        rw (none, first_place f.width r s, place, e)
        (get_or-append (replicate (table_width f.width r) 0) rest 0 i (rw length-replicate a) ∙ get_or-replicate (table_width f.width r) i 0 0 a ∙ sym (entry-none f r s samples i));
  }

  -- the table's next row is stored in its place, from the row above and a padded row
  pub held_more : (row rest : List ℕ) (m k : ℕ) (d l : List ℕ) → r ≤ 15 → table_width f.width r ≤ m → ring_size f.width r s ≤ length d → HeldTable f r s samples k d
      → row ≡ tabulate (λ i. padded f samples i (15 - s + k)) (f.width + 30) ++ rest
      → l ≡ stored (λ i. (get_or d (row_start f.width r s k + i) 0 + sum (take i (take m (drop (15 - r) row)))) % 2 ^ 32) d (row_start f.width r s (k + 1)) (table_width f.width r)
      → HeldTable f r s samples (k + 1) l
  held_more row rest m k d l hr hm size held er el = record { held = λ i y a b c. ⊎_elim (made i y a) (same i y a c) (eq-or-lt_of_le b) }
    where
      to : ℕ
      to = row_start f.width r s (k + 1)

      inside : to ≤ length d
      inside = omega (arith, place_fits f.width r s (k + 1) size)

      made : (i y : ℕ) → i < table_width f.width r → y ≡ k + 1 → get_or l (row_start f.width r s y + i) 0 ≡ entry f r s samples i y
      made i y a e =
          rw e
          (at_stored _ d l to (table_width f.width r) i inside a el
          ∙ entry_more f r s samples row rest _ m i k hr (omega (arith, a, hm)) (omega (arith, a)) (held.held i k a (le_refl k) (omega arith)) er)

      same : (i y : ℕ) → i < table_width f.width r → k + 1 < y + ring_rows s → y < k + 1 → get_or l (row_start f.width r s y + i) 0 ≡ entry f r s samples i y
      same i y a c b =
          ⊎_elim
          (λ above. before_stored _ d l to (table_width f.width r) (row_start f.width r s y + i) inside (omega (arith, above, a)) el)
          (λ below. behind_stored _ d l to (table_width f.width r) (row_start f.width r s y + i) inside (omega (arith, below)) el)
          (rows_apart (ring_rows s) (table_width f.width r) y (k + 1) (omega arith) b c)
          ∙ held.held i y a (omega (arith, b)) (omega (arith, c))
