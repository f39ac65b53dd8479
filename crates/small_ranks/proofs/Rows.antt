-- Rows that are held one behind another: none, fewer, one more, and the windows in them. Assumes nothing.
use Prim.Native.Nat.{ℕ, ◌+◌, ◌-◌, ◌*◌, ◌≤◌, ◌<◌}
use native.Mathlib.Nat.{le_trans, eq-or-lt_of_le}
use native.Mathlib.Omega.{arith}
use mathlib.Core.Path.{◌≡◌, ap, sym, ◌∙◌}
use mathlib.Core.Logic.{⊎_elim}
use mathlib.Core.List.{List, ◌++◌}
use lib.ListN.{length, get_or, take, drop, get_or-append}
use lib.Seq.{length-take-le, get_or-take, get_or-append-add}
use Rattle.lists.specs.Tabulate.{tabulate}
use Rattle.lists.proofs.Part.{tail_put}
use Rattle.lists.proofs.Tabulate.{entry_known, tabulate_ext}
use Rattle.lists.proofs.Raster.{raster_ext, place_fits}
use Rattle.model.specs.Window.{window}
use Rattle.model.specs.Rank.{smallest, rank_result}
use Rattle.stage_values.specs.declared.Window.{Window}
use Rattle.frame.specs.declared.Frame.{Frame}
use Rattle.frame.specs.Framed.{neighbours}
use Rattle.frame.specs.Padded.{padded}
use Rattle.frame.proofs.Supplied.{window-padded}
use Rattle.rank_search.specs.WindowAt.{window_at}
use Rattle.small_ranks.specs.HeldRows.{HeldRows}

module _ (f : Frame) (samples : List ℕ) where
  -- no slot holds a row yet
  pub held_none : (y n : ℕ) (rows : List ℕ) → HeldRows f samples y n n rows
  held_none y n rows = record { held = λ x j a b c. absurd (omega (arith, b, c)) }

  -- fewer slots
  pub held_fewer : {y n : ℕ} {rows : List ℕ} (k m : ℕ) → k ≤ m → HeldRows f samples y k n rows → HeldRows f samples y m n rows
  held_fewer k m l h = record { held = λ x j a b c. h.held x j a (le_trans l b) c }

  -- all rows have moved up, and one more was made by a function that was lent the part behind them
  pub held_pushed : (y k last at : ℕ) (d l part : List ℕ) → at ≡ last * (f.width + 30) → at ≤ length l
      → ((i : ℕ) → i < at → get_or l i 0 ≡ get_or d (f.width + 30 + i) 0)
      → take (f.width + 30) part ≡ tabulate (λ x. padded f samples x (y + 1 + last)) (f.width + 30) → HeldRows f samples y (k + 1) (last + 1) d
      → HeldRows f samples (y + 1) k (last + 1) (take at l ++ (part ++ drop (length l - at) (drop at l)))
  held_pushed y k last at d l part e h up row rows = record { held = λ x j a b c. rw (tail_put at l part) (⊎_elim (made x j a) (moved x j a b) (eq-or-lt_of_le (up_to j c))) }
    where
      up_to : (j : ℕ) → j < last + 1 → j ≤ last
      up_to j c = omega arith

      front : length (take at l) ≡ at
      front = length-take-le at l h

      made : (x j : ℕ) → x < f.width + 30 → j ≡ last → get_or (take at l ++ part) (j * (f.width + 30) + x) 0 ≡ padded f samples x (y + 1 + j)
      made x j a q =
          let place : j * (f.width + 30) + x ≡ length (take at l) + x = rw q (omega (arith, e, front)) in
          rw (place, q) (get_or-append-add (take at l) part x 0 ∙ entry_known _ part (f.width + 30) x 0 row a)

      moved : (x j : ℕ) → x < f.width + 30 → k ≤ j → j < last → get_or (take at l ++ part) (j * (f.width + 30) + x) 0 ≡ padded f samples x (y + 1 + j)
      moved x j a b c =
          let inside : j * (f.width + 30) + x < at = rw e (place_fits x j (f.width + 30) last a c) in
          let place : f.width + 30 + (j * (f.width + 30) + x) ≡ (j + 1) * (f.width + 30) + x = omega arith in
          let down : y + (j + 1) ≡ y + 1 + j = omega arith in
          get_or-append (take at l) part 0 (j * (f.width + 30) + x) (rw front inside) ∙ get_or-take at l (j * (f.width + 30) + x) 0 inside
          ∙ up (j * (f.width + 30) + x) inside ∙ ap (λ (i : ℕ). get_or d i 0) place
          ∙ rows.held x (j + 1) a (omega (arith, b)) (omega (arith, c)) ∙ ap (λ (i : ℕ). padded f samples x i) down

  module _ (w : Window) (v : ℕ) {rows : List ℕ} (low : w.s ≤ 14) (h : HeldRows f samples (14 - w.s + v + 1) 0 (2 * w.s + 1) rows) where
    window_held : (u : ℕ) → u < f.width → window_at rows f.width w.r (2 * w.s + 1) u ≡ window w.r w.s (neighbours f samples u v)
    unfolding window_at
    window_held u b =
        let down : 14 - w.s + v + 1 ≡ 15 - w.s + v = omega (arith, low) in
        raster_ext _ _ (2 * w.r + 1) (2 * w.s + 1) (λ i j k l.
        let place : 15 - w.r + j * (f.width + 30) + (u + i) ≡ j * (f.width + 30) + (15 - w.r + u + i) = omega arith in
        ap (λ (n : ℕ). get_or rows n 0) place ∙ (rw down at h).held (15 - w.r + u + i) j (omega (arith, b, k, w.near.0)) (omega arith) l)
        ∙ sym (window-padded f samples w.r w.s u v w.near.0 w.near.1)

    -- the results of row v
    pub row_results : (p : ℕ) → tabulate (λ u. smallest p (window_at rows f.width w.r (2 * w.s + 1) u)) f.width ≡ tabulate (λ u. rank_result w.r w.s p (neighbours f samples u v)) f.width
    unfolding rank_result
    row_results p = tabulate_ext _ _ f.width (λ u b. ap (λ (l : List ℕ). smallest p l) (window_held u b))
