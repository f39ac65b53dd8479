-- Window sums from the corners of a table, of which a few rows are held. Assumes nothing.
use Prim.Native.Nat.{ℕ, ◌+◌, ◌-◌, ◌*◌, ◌/◌, ◌^◌, ◌≤◌, ◌<◌}
use native.Mathlib.Nat.{add_assoc}
use native.Mathlib.Omega.{arith}
use mathlib.Core.Path.{◌≡◌, ap, ◌∙◌}
use mathlib.Core.List.{List}
use Rattle.integers.specs.Sum.{sum}
use Rattle.lists.specs.Tabulate.{tabulate, raster}
use Rattle.lists.proofs.Tabulate.{tabulate_ext}
use Rattle.lists.proofs.Raster.{raster_ext}
use Rattle.model.specs.Window.{area, window}
use Rattle.model.specs.Box.{box_result}
use Rattle.model_laws.proofs.Window.{length-window, pairs_window, sum-le, area-le}
use Rattle.model_laws.proofs.Chain.{around_both}
use Rattle.model.specs.Plane.{plane_of}
use Rattle.model.specs.Sound.{Bytes}
use Rattle.stage_values.specs.Stands.{border_is}
use Rattle.frame.specs.declared.Frame.{Frame}
use Rattle.frame.specs.Framed.{neighbours}
use Rattle.frame.proofs.Supplied.{window-padded}
use Rattle.table_sizes.specs.Ring.{table_width}
use Rattle.area_tables.specs.Table.{extended, entry}
use Rattle.area_tables.specs.HeldTable.{HeldTable}
use Rattle.mean_rows.specs.Corners.{corners}
use Rattle.window_means.specs.WindowCorners.{corners_at}
use Rattle.boxes.proofs.FullTable.{Row, upper_held, lower_held}
use Rattle.area_tables.proofs.Sums.{window-total}
use Rattle.mean_rows.proofs.Corners.{difference_is_sum}

module _ (f : Frame) (r s : ℕ) (samples : List ℕ) (hr : r ≤ 15) (hs : s ≤ 15) where
  -- the window of column u, row v, in the extended frame
  window-extended : (u v : ℕ) → window r s (neighbours f samples u v) ≡ raster (λ i j. extended f r s samples (u + i) (v + j)) (2 * r + 1) (2 * s + 1)
  unfolding extended
  window-extended u v =
      window-padded f samples r s u v hr hs
      ∙ raster_ext _ _ (2 * r + 1) (2 * s + 1) (λ i j _ _. rw (add_assoc (15 - r) u i, add_assoc (15 - s) v j))

  -- the sum of the first x columns and y rows
  abbrev all : ℕ → ℕ → ℕ
  all x y = sum (raster (extended f r s samples) x y)

  window-corners : (u v : ℕ) → sum (window r s (neighbours f samples u v)) + all (u + (2 * r + 1)) v + all u (v + (2 * s + 1)) ≡ all (u + (2 * r + 1)) (v + (2 * s + 1)) + all u v
  window-corners u v = omega (arith, ap sum (window-extended u v), window-total (extended f r s samples) u v (2 * r + 1) (2 * s + 1))

  -- of bytes
  module _ (hb : f.value ≤ 255) (hf : Bytes samples) where
    plane_le : (u v : ℕ) → plane_of f.width samples u v ≤ 255
    unfolding plane_of
    plane_le u v = hf (v * f.width + u)

    pub window-sum-le : (u v : ℕ) → sum (window r s (neighbours f samples u v)) ≤ 255 * area r s
    window-sum-le u v =
        let near = neighbours f samples u v in
        omega (arith, sum-le (pairs_window r s near near (around_both (λ y x. y ≤ 255) (border_is f.border) f.value f.value f.width f.height (plane_of f.width samples) (plane_of f.width samples) hb plane_le u v)), ap (λ (n : ℕ). n * 255) (length-window r s near))

    -- so it is below 2^32
    window_sum_small : (u v : ℕ) → sum (window r s (neighbours f samples u v)) < 2 ^ 32
    unfolding area
    window_sum_small u v = omega (arith, window-sum-le u v, area-le r s 15 15 hr hs)

    -- the difference of a window's four corners is its sum, for two rows of the table wherever they lie
    pub edges_sum : (upper lower : List ℕ) (u v : ℕ) → u < f.width → Row f r s samples upper v → Row f r s samples lower (v + (2 * s + 1)) → corners upper lower (2 * r + 1) u ≡ sum (window r s (neighbours f samples u v))
    unfolding corners entry
    edges_sum upper lower u v hu above below =
        let right : 2 * r + 1 + u ≡ u + (2 * r + 1) = omega arith in
        let far : u + (2 * r + 1) < table_width f.width r = omega arith in
        let near : u < table_width f.width r = omega arith in
        rw (right, below (u + (2 * r + 1)) far, above u near, above (u + (2 * r + 1)) far, below u near)
        (difference_is_sum (sum (window r s (neighbours f samples u v))) (all (u + (2 * r + 1)) (v + (2 * s + 1))) (all (u + (2 * r + 1)) v) (all u (v + (2 * s + 1))) (all u v)
        (window_sum_small u v) (window-corners u v))

    module _ (sums : List ℕ) (v : ℕ) (held : HeldTable f r s samples (v + (2 * s + 1)) sums) where
      -- so is that of the rows that are held, once the lower edge of row v's windows is among them
      pub held_sum_lem : (u : ℕ) → u < f.width → corners_at sums f.width r s u v ≡ sum (window r s (neighbours f samples u v))
      unfolding corners_at
      held_sum_lem u hu = edges_sum _ _ u v hu (upper_held f r s samples sums v held) (lower_held f r s samples sums v held)

      pub held_le : (u : ℕ) → u < f.width → corners_at sums f.width r s u v ≤ 255 * area r s
      held_le u hu = rw (held_sum_lem u hu) (window-sum-le u v)

      -- and the means are the results of row v
      pub row_means : tabulate (λ u. (2 * corners_at sums f.width r s u v + area r s) / (2 * area r s)) f.width ≡ tabulate (λ u. box_result r s (neighbours f samples u v)) f.width
      unfolding box_result
      row_means = tabulate_ext _ _ f.width (λ u hu. rw (held_sum_lem u hu))
