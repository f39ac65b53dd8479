-- The sum of a run of columns: column by column, one place on, its size, and the sum of a window. Assumes nothing.
use Prim.Native.Nat.{ℕ, ◌+◌, ◌-◌, ◌*◌, ◌≤◌, ◌<◌}
use native.Mathlib.Nat.{zero-add}
use native.Mathlib.Omega.{arith}
use mathlib.Core.Path.{◌≡◌, refl, sym, ap, ◌∙◌}
use mathlib.Core.List.{List}
use lib.ListN.{get_or, drop}
use lib.Seq.{get_or-drop}
use lib.IntN.{ℤ, pos, nat_abs, ◌+ℤ◌, ◌-ℤ◌}
use Rattle.integers.specs.Sum.{sum, sumℤ}
use Rattle.lists.specs.Tabulate.{tabulate}
use Rattle.lists.proofs.Tabulate.{tabulate_ext}
use Rattle.model.specs.Stage.{box}
use Rattle.model.specs.Exact.{numerator}
use Rattle.frame.specs.declared.Frame.{Frame}
use Rattle.frame.specs.Framed.{neighbours}
use Rattle.frame.specs.Padded.{padded}
use Rattle.frame.proofs.Supplied.{window-padded}
use Rattle.exact_boxes.specs.BoxSums.{column_sum, run_sum}
use Rattle.exact_boxes.proofs.SumLaws.{exchanged, sumℤ-more, sumℤ_slide, sumℤ-size, sumℤ-pos, sum_columns}

module _ (columns : List ℤ) where
  -- no column
  pub run_none : (u : ℕ) → run_sum columns 0 u ≡ pos 0
  unfolding run_sum tabulate sumℤ
  run_none u = refl

  -- one column more
  pub run_more : (n : ℕ) → run_sum columns (n + 1) 0 ≡ run_sum columns n 0 +ℤ get_or columns n (pos 0)
  unfolding run_sum
  run_more n = sumℤ-more (λ i. get_or columns (0 + i) (pos 0)) n ∙ rw (zero-add n) refl

  -- one place on, a column leaves and another enters
  pub run_next : (n u : ℕ) → run_sum columns n u -ℤ get_or columns u (pos 0) +ℤ get_or columns (u + n) (pos 0) ≡ run_sum columns n (u + 1)
  unfolding run_sum
  run_next n u = exchanged (run_sum columns n u) (run_sum columns n (u + 1)) (get_or columns u (pos 0)) (get_or columns (u + n) (pos 0)) (sumℤ_slide (λ i. get_or columns i (pos 0)) u n)

  -- columns of at most M in size
  pub run-size : (n u M : ℕ) → ((i : ℕ) → i < n → nat_abs (get_or columns (u + i) (pos 0)) ≤ M) → nat_abs (run_sum columns n u) ≤ n * M
  unfolding run_sum
  run-size n u M h = sumℤ-size _ n M h

-- the sums of a window's columns, at every place of a padded row
abbrev pub Columns : Frame → List ℕ → ℕ → List ℤ → ℕ → Type 0
Columns f samples s sums v = (x : ℕ) → x < f.width + 30 → get_or sums x (pos 0) ≡ column_sum f samples s x v

-- the sum of a window, from the sums of its columns
pub run-window : (f : Frame) (samples : List ℕ) (columns : List ℤ) (r s u v : ℕ) → r ≤ 15 → s ≤ 15 → u < f.width
    → Columns f samples s columns v
    → run_sum (drop (15 - r) columns) (2 * r + 1) u ≡ numerator (box r s) (neighbours f samples u v)
unfolding run_sum column_sum numerator
run-window f samples columns r s u v hr hs b h =
    ap sumℤ (tabulate_ext _ _ (2 * r + 1) (λ i k. get_or-drop (15 - r) columns (u + i) (pos 0) ∙ h (15 - r + (u + i)) (omega (arith, b, k, hr)) ∙ ap (λ (x : ℕ). column_sum f samples s x v) (place i)))
    ∙ sumℤ-pos (λ i. sum (tabulate (λ j. padded f samples (15 - r + u + i) (15 - s + v + j)) (2 * s + 1))) (2 * r + 1)
    ∙ ap pos (sym (sum_columns (λ i j. padded f samples (15 - r + u + i) (15 - s + v + j)) (2 * r + 1) (2 * s + 1)) ∙ ap sum (sym (window-padded f samples r s u v hr hs)))
  where
    place : (i : ℕ) → 15 - r + (u + i) ≡ 15 - r + u + i
    place i = omega arith
