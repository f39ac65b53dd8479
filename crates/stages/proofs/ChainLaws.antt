-- The written chain a stage at a time, and room for its sums. Assumes nothing.
use Prim.Native.Nat.{ℕ, ◌≤◌}
use native.Mathlib.Omega.{arith}
use mathlib.Core.Path.{◌≡◌, refl}
use mathlib.Core.List.{List, [], ◌∷◌}
use Rattle.lists.specs.Tabulate.{raster}
use Rattle.model.specs.Plane.{plane_of}
use Rattle.model.specs.Stage as Model
use Rattle.table_sizes.specs.Needs.{work_sums, sum_need}

pub chain_none : (w h : ℕ) (samples : List ℕ) → Model.written w h [] samples ≡ samples
unfolding Model.written
chain_none w h samples = refl

pub chain_more : (w h : ℕ) (t : Model.Stage) (ts : List Model.Stage) (samples plane : List ℕ) → plane ≡ raster (Model.stage_plane w h t (plane_of w samples)) w h
    → Model.written w h (t ∷ ts) samples ≡ Model.written w h ts plane
unfolding Model.written
chain_more w h t ts samples plane e = rw e

-- room for all is room for the first, and for the rest
pub first_fits : (w : ℕ) (t : Model.Stage) (ts : List Model.Stage) {n : ℕ} → sum_need w (t ∷ ts) ≤ n → work_sums w t.work ≤ n
unfolding sum_need
first_fits w t ts l = omega (arith, l)

pub rest_fit : (w : ℕ) (t : Model.Stage) (ts : List Model.Stage) {n : ℕ} → sum_need w (t ∷ ts) ≤ n → sum_need w ts ≤ n
unfolding sum_need
rest_fit w t ts l = omega (arith, l)
