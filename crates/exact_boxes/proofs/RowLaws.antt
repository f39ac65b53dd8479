-- A row of windows, from the sums that are kept of its columns. Assumes nothing.
use Prim.Native.Nat.{ℕ, ◌+◌, ◌-◌, ◌*◌, ◌^◌, ◌≤◌, ◌<◌}
use native.Mathlib.Omega.{arith}
use mathlib.Core.Path.{◌≡◌, ◌∙◌}
use mathlib.Core.List.{List, ◌++◌}
use lib.ListN.{length, get_or, drop, take}
use lib.Seq.{get_or-drop}
use lib.IntN.{ℤ, pos, nat_abs}
use Rattle.lists.specs.Tabulate.{tabulate}
use Rattle.lists.proofs.Part.{tail_mid}
use Rattle.lists.proofs.Tabulate.{filled_at}
use Rattle.model.specs.Sound.{Bytes}
use Rattle.model.specs.Stage.{box}
use Rattle.model.specs.Exact.{numerator}
use Rattle.frame.specs.declared.Frame.{Frame}
use Rattle.frame.specs.Framed.{neighbours}
use Rattle.exact_boxes.specs.BoxSums.{run_sum}
use Rattle.exact_boxes.proofs.ColumnLaws.{column_small}
use Rattle.exact_boxes.proofs.RunLaws.{Columns, run-window}

-- the part of an array of m entries from place k on
pub array_tail : {A : Type 0} (k m : ℕ) (xs : List A) → m ≡ length xs → take (m - k) (drop k xs) ≡ drop k xs
array_tail k m xs e = rw e (tail_mid k xs)

module _ (f : Frame) (samples : List ℕ) (sums : List ℤ) (r s v : ℕ) (hr : r ≤ 15) (hs : s ≤ 15) (h : Columns f samples s sums v) where
  -- the sums that a row of windows needs fit a word
  pub columns_fit : f.value ≤ 255 → Bytes samples → (i : ℕ) → i + 1 < f.width + (2 * r + 1) → nat_abs (get_or (drop (15 - r) sums) i (pos 0)) ≤ 2 ^ 31
  columns_fit byte bytes i b =
      rw (get_or-drop (15 - r) sums i (pos 0), h (15 - r + i) (omega (arith, b, hr)))
      (omega (arith, column_small f samples s byte bytes (15 - r + i) v hs))

  -- a row of window sums, made from an array of m sums of columns, has the numerators of its row
  pub row_sums : (m : ℕ) (d wide : List ℤ) → m ≡ length sums
      → wide ≡ tabulate (run_sum (take (m - (15 - r)) (drop (15 - r) sums)) (2 * r + 1)) f.width ++ drop f.width d
      → (u : ℕ) → u < f.width → get_or wide u (pos 0) ≡ numerator (box r s) (neighbours f samples u v)
  row_sums m d wide l e u b = filled_at _ f.width d wide (pos 0) u (rw (array_tail (15 - r) m sums l) at e) b ∙ run-window f samples sums r s u v hr hs b h
