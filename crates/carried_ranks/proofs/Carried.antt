-- The counts that are carried along a row are those of each sample's window. Assumes nothing.
use Prim.Native.Nat.{ℕ, ◌+◌, ◌-◌, ◌*◌}
use native.Mathlib.Omega.{arith}
use mathlib.Core.Path.{◌≡◌, sym, ap, ◌∙◌}
use mathlib.Core.List.{List}
use lib.Dec.{eqb}
use Rattle.lists.proofs.Tabulate.{tabulate_ext}
use Rattle.model.specs.Window.{window}
use Rattle.stage_values.specs.declared.Window.{Window}
use Rattle.frame.specs.declared.Frame.{Frame}
use Rattle.frame.specs.Framed.{neighbours}
use Rattle.frame.proofs.Supplied.{window-padded}
use Rattle.histograms.specs.Histogram.{at_level, counted, histogram}
use Rattle.window_columns.specs.Rows.{row_starts}
use Rattle.window_columns.specs.Columns.{column_in, side_by_side}
use Rattle.window_columns.proofs.Placed.{columns_supplied}
use Rattle.window_columns.proofs.Slide.{next_counts}

module _ (f : Frame) (samples : List ℕ) (w : Window) (v : ℕ) where
  -- the column of row v's windows at a place
  abbrev pub column : ℕ → List ℕ
  column = column_in f samples (row_starts f (15 - w.s + v) (2 * w.s + 1)) (2 * w.s + 1)

  -- columns side by side have the counts of the model's window, under every border
  pub window-counts : (u : ℕ) → histogram (side_by_side column (15 - w.r + u) (2 * w.r + 1)) ≡ histogram (window w.r w.s (neighbours f samples u v))
  unfolding histogram
  window-counts u =
      tabulate_ext _ _ 256 (λ g _. columns_supplied f samples (15 - w.s + v) (λ x. eqb x g) (2 * w.s + 1) (15 - w.r + u) (2 * w.r + 1)
      ∙ ap (λ (xs : List ℕ). at_level g xs) (sym (window-padded f samples w.r w.s u v w.near.0 w.near.1)))

  -- the law of a step: with the column that leaves taken off and the one that enters counted, what is counted is the window of the sample that comes next
  pub carried : (u : ℕ) (now without next : List ℕ) → now ≡ histogram (window w.r w.s (neighbours f samples u v))
      → now ≡ counted without (column (15 - w.r + u)) → next ≡ counted without (column (15 - w.r + u + (2 * w.r + 1)))
      → next ≡ histogram (window w.r w.s (neighbours f samples (u + 1) v))
  carried u now without next e l n =
      let on : 15 - w.r + (u + 1) ≡ 15 - w.r + u + 1 = omega arith in
      rw (← on) at (next_counts column now (15 - w.r + u) (2 * w.r + 1) (e ∙ sym (window-counts u)) without next l n) ∙ window-counts (u + 1)
