-- Loops that store into a buffer from the front: what is stored so far, and behind it what was there. Assumes nothing.
use Prim.Native.Nat.{ℕ, ◌+◌, ◌*◌, ◌-◌, ◌≤◌, ◌<◌}
use native.Mathlib.Nat.{le_antisymm}
use native.Mathlib.Omega.{arith}
use mathlib.Core.Path.{◌≡◌, refl, sym, ap, ◌∙◌}
use mathlib.Core.List.{List, ◌++◌}
use lib.ListN.{length, get_or, take, drop, set, length-set, length-append, length-drop}
use lib.Seq.{get_or-drop}
use Rattle.lists.specs.Tabulate.{tabulate, raster}
use Rattle.lists.proofs.Tabulate.{fill_none, fill_more, filled_next, filled_behind}
use Rattle.lists.proofs.Raster.{rows_none, rows_more, row_fits, length-raster}

-- ---- entry by entry: f 0, f 1, .. up to i of n, in a buffer that was d

pub record Stored {A : Type 0} (f : ℕ → A) (n : ℕ) (d l : List A) (i : ℕ) : Type 0 where
  pub so_far : i ≤ n
  pub front : l ≡ tabulate f i ++ drop i d
  pub long : length l ≡ length d

module _ {A : Type 0} where
  pub stored_none : (f : ℕ → A) (n : ℕ) (d : List A) → Stored f n d d 0
  stored_none f n d = record { so_far = omega arith; front = fill_none f d; long = refl }

  pub stored_more : {f : ℕ → A} {n : ℕ} {d l : List A} {i : ℕ} {v : A} → Stored f n d l i → n ≤ length d → i < n → v ≡ f i → Stored f n d (set l i v) (i + 1)
  stored_more {f} {n} {d} {l} {i} {v} s h b e = record {
    so_far = omega (arith, b);
    front = fill_more f i d l v (omega (arith, h, b)) s.front e;
    long = length-set l i v ∙ s.long;
  }

  -- the next entry is as it was
  pub stored_next : {f : ℕ → A} {n : ℕ} {d l : List A} {i : ℕ} (a : A) → Stored f n d l i → get_or l i a ≡ get_or d i a
  stored_next {f} {n} {d} {l} {i} a s = filled_next f i d l a s.front

  -- and so are all behind it
  pub stored_behind : {f : ℕ → A} {n : ℕ} {d l : List A} {i : ℕ} (a : A) → Stored f n d l i → (k : ℕ) → i ≤ k → get_or l k a ≡ get_or d k a
  stored_behind {f} {n} {d} {l} {i} a s k h =
      let place : k ≡ i + (k - i) = omega arith in
      rw place (sym (get_or-drop i l (k - i) a) ∙ ap (λ (t : List A). get_or t (k - i) a) (filled_behind f i d l s.front) ∙ get_or-drop i d (k - i) a)

  pub stored_done : {f : ℕ → A} {n : ℕ} {d l : List A} {i : ℕ} → Stored f n d l i → n ≤ i → l ≡ tabulate f n ++ drop n d
  stored_done s h = rw (le_antisymm s.so_far h) at s.front

-- ---- row by row: y of n rows of w entries, the next from place `at` on

pub record StoredRows {A : Type 0} (g : ℕ → ℕ → A) (w n : ℕ) (d l : List A) (at y : ℕ) : Type 0 where
  pub so_far : y ≤ n
  pub place : at ≡ y * w
  pub front : l ≡ raster g w y ++ drop at d
  pub long : length l ≡ length d

module _ {A : Type 0} where
  pub rows_stored_none : (g : ℕ → ℕ → A) (w n : ℕ) (d : List A) → StoredRows g w n d d 0 0
  rows_stored_none g w n d = record { so_far = omega arith; place = omega arith; front = rows_none g w d; long = refl }

  module _ {g : ℕ → ℕ → A} {w n : ℕ} {d l : List A} {at y : ℕ} (s : StoredRows g w n d l at y) (b : y < n) where
    -- the next row is inside
    pub row_room : {m : ℕ} → n * w ≤ m → at + w ≤ m
    row_room h = omega (arith, row_fits y n w b, s.place, h)

    -- it was written by a function that was lent the part that starts there
    pub rows_stored_more : (part : List A) → n * w ≤ length d → part ≡ tabulate (λ u. g u y) w ++ drop w (take (length l - at) (drop at l))
        → StoredRows g w n d (take at l ++ (part ++ drop (length l - at) (drop at l))) (at + w) (y + 1)
    rows_stored_more part h e =
        let m = rows_more g w y at d l part s.place (row_room h) s.front e in
        record {
          so_far = omega (arith, b);
          place = rw s.place (omega arith);
          front = m;
          long = ap length m ∙ simp (length-append, length-raster, length-drop) (omega (arith, row_room h, s.place));
        }

  pub rows_stored_done : {g : ℕ → ℕ → A} {w n : ℕ} {d l : List A} {at y : ℕ} → StoredRows g w n d l at y → n ≤ y → l ≡ raster g w n ++ drop (n * w) d
  rows_stored_done s h = rw (s.place, le_antisymm s.so_far h) at s.front
