-- What each kind of work makes of the plane at the front of a buffer is what the stage that is stood for makes. Assumes nothing.
use Prim.Native.Nat.{ℕ, ◌*◌, ◌≤◌}
use native.Mathlib.Nat.{mul_comm}
use native.Mathlib.Omega.{arith}
use mathlib.Core.Path.{◌≡◌, ◌∙◌}
use mathlib.Core.List.{List, ◌++◌}
use lib.ListN.{length, take, length-take}
use lib.Seq.{take_at}
use Rattle.lists.specs.Tabulate.{raster}
use Rattle.lists.proofs.Raster.{length-raster}
use Rattle.model.specs.Plane.{plane_of}
use Rattle.model.specs.Kernel.{Kernel}
use Rattle.model.specs.Weighted.{weighted_result}
use Rattle.model.specs.Box.{box_result}
use Rattle.model.specs.Rank.{rank_result}
use Rattle.model.specs.Outline.{outline_result}
use Rattle.model.specs.Stage as Model
use Rattle.stage_values.specs.declared.Window.{Window}
use Rattle.stage_values.specs.declared.Rank.{Rank}
use Rattle.stage_values.specs.declared.Work.TheVariants.{Weighted, Boxed, Ranked, Outlined}
use Rattle.stage_values.specs.declared.Stage.{Stage}
use Rattle.stage_values.specs.Stands.{Does, Stands}
use Rattle.frame.specs.declared.Frame.{Frame}
use Rattle.frame.specs.Framed.{Framed, worked}
use Rattle.table_sizes.specs.Ring.{ring_size}
use Rattle.table_sizes.specs.Needs.{work_sums}

-- a plane that was put in place of the front
pub front_put : (g : ℕ → ℕ → ℕ) (w h : ℕ) (plane rest : List ℕ) → plane ≡ raster g w h → take (h * w) (plane ++ rest) ≡ raster g w h
front_put g w h plane rest e = rw e (take_at (raster g w h) rest (h * w) (length-raster g w h))

module _ (w h : ℕ) (s : Stage) where
  -- the frame of a stage
  abbrev pub frame_of : Frame
  frame_of = record { width = w; height = h; border = s.border; value = s.value }

  -- a plane at the front of a buffer that is long enough
  pub front_frame : (work : List ℕ) → 1 ≤ w → w ≤ 8192 → 1 ≤ h → h ≤ 8192 → 2 * (h * w) ≤ length work → Framed frame_of (take (h * w) work)
  front_frame work a b c d e = record { width = (a, b); height = (c, d); whole = length-take (h * w) work ∙ omega (arith, e) }

  module _ (samples : List ℕ) (t : Model.Stage) (k : Stands s t) where
    abbrev made : List ℕ
    made = raster (Model.stage_plane w h t (plane_of w samples)) w h

    module _ (e : s.work ≡ Weighted) where
      pub weighted_does : Does Weighted s t.work
      weighted_does = rw e at k.work

    pub weighted_plane : (K L : Kernel) → t.work ≡ Model.weighted K L → worked frame_of (weighted_result K L) samples ≡ made
    unfolding Model.stage_plane Model.result worked
    weighted_plane K L e = rw (e, k.border, k.value)

    module _ {x : Window} (e : s.work ≡ Boxed x) where
      box_does : Does (Boxed x) s t.work
      box_does = rw e at k.work

      pub box_plane : worked frame_of (box_result x.r x.s) samples ≡ made
      unfolding Model.stage_plane Model.result worked
      box_plane = rw (box_does, k.border, k.value)

      -- its rows of sums fit
      pub box-room : {n : ℕ} → work_sums w t.work ≤ n → ring_size w x.r x.s ≤ n
      unfolding work_sums
      box-room l = rw mul_comm (rw box_does at l)

    module _ {x : Rank} (e : s.work ≡ Ranked x) where
      rank_does : Does (Ranked x) s t.work
      rank_does = rw e at k.work

      pub rank_plane : worked frame_of (rank_result x.window.r x.window.s x.position) samples ≡ made
      unfolding Model.stage_plane Model.result worked
      rank_plane = rw (rank_does, k.border, k.value)

    pub outline_plane : s.work ≡ Outlined → worked frame_of outline_result samples ≡ made
    unfolding Model.stage_plane Model.result worked
    outline_plane e = let d : Does Outlined s t.work = rw e at k.work in rw (d, k.border, k.value)
