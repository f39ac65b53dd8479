-- The histogram of a window of the frame, and the window's p-th smallest sample. Assumes nothing.
use Prim.Native.Nat.{ℕ, ◌+◌, ◌-◌, ◌*◌, ◌≤◌, ◌<◌}
use native.Mathlib.Nat.{le_trans}
use native.Mathlib.Omega.{arith}
use mathlib.Core.Path.{◌≡◌, sym, ◌∙◌}
use mathlib.Core.List.{List}
use lib.ListN.{length, take}
use lib.IntN.{ℤ}
use Rattle.model.specs.Plane.{Neighbourhood, plane_of}
use Rattle.model.specs.Sound.{Bytes}
use Rattle.stage_values.specs.Stands.{border_is}
use Rattle.stage_values.specs.declared.Rank.{Rank}
use Rattle.frame.specs.declared.Frame.{Frame}
use Rattle.frame.specs.Framed.{Framed, neighbours}
use Rattle.histograms.specs.declared.Reached.{Reached}
use Rattle.histograms.specs.Histogram.{histogram, total}
use Rattle.histograms.specs.Position.{Summed, Reaches}
use Rattle.window_columns.specs.Rows.{row_starts, Rows}
use Rattle.window_columns.specs.Columns.{side_by_side}
use Rattle.window_columns.proofs.Placed.{starts_rows}
use Rattle.carried_ranks.proofs.Carried.{column, window-counts}
use Rattle.histograms.proofs.Counts.{length-histogram}
use Rattle.histograms.proofs.Below.{total_at_most, smallest-level}
use Rattle.model.specs.Window.{window}
use Rattle.model.specs.Rank.{rank_result}
use Rattle.model_laws.proofs.Chain.{around_both}
use Rattle.model_laws.proofs.Window.{length-window, area-le}
use Rattle.model_laws.proofs.Rank.{smallest_iff, rank-le}

-- the rows inside, as they are placed, are in the plane
pub rows-placed : (f : Frame) (plane : List ℕ) (y d n : ℕ) (l : List ℕ) → Framed f plane → take n l ≡ row_starts f y d → Rows f plane d (take n l)
rows-placed f plane y d n l h e = rw e (starts_rows f y plane h d)

module _ (f : Frame) (samples : List ℕ) (rank : Rank) (u v : ℕ) (counts : List ℕ)
    (e : counts ≡ histogram (side_by_side (column f samples rank.window v) (15 - rank.window.r + u) (2 * rank.window.r + 1))) where
  abbrev near : Neighbourhood
  near = neighbours f samples u v

  abbrev samples_in : List ℕ
  samples_in = window rank.window.r rank.window.s near

  -- they are the counts of the model's window
  is : counts ≡ histogram samples_in
  is = e ∙ window-counts f samples rank.window v u

  enough : rank.position ≤ length samples_in
  enough = rw length-window rank.inside.1

  -- every sample is a byte, so all are counted
  all-counted : f.value ≤ 255 → Bytes samples → rank.position ≤ total counts 256
  unfolding rank_result plane_of
  all-counted hv hb =
      let bytes : (i j : ℤ) → near i j ≤ 255 = around_both (λ y x. y ≤ 255) (border_is f.border) f.value f.value f.width f.height (plane_of f.width samples) (plane_of f.width samples) hv (λ a b. hb (b * f.width + a)) u v in
      rw (is, total_at_most samples_in 255 (omega arith))
      ((smallest_iff rank.position 255 samples_in rank.inside.0 enough).0 (rank-le rank.window.r rank.window.s rank.position rank.inside.0 rank.inside.1 near bytes))

  -- what it takes to look for the level at which the sum of the counts reaches the position
  pub level-there : (at : Reached) → f.value ≤ 255 → Bytes samples → Summed counts at
      → (length counts ≡ 256) × (1 ≤ rank.position) × (rank.position ≤ 961) × (rank.position ≤ total counts 256) × Summed counts at
  level-there at hv hb t =
      (length-histogram counts _ e, rank.inside.0, le_trans rank.inside.1 (area-le rank.window.r rank.window.s 15 15 rank.window.near.0 rank.window.near.1), all-counted hv hb, t)

  -- that level is the result
  pub rank-found : (at : Reached) → at.level < 256 → Reaches counts rank.position at → at.level ≡ rank_result rank.window.r rank.window.s rank.position near
  unfolding rank_result
  rank-found at h t = sym (smallest-level rank.position at.level samples_in rank.inside.0 enough h (rw is at (rw t.summed at t.before)) (rw is at t.there))
