-- What the frame rule supplies is what the model has around a place. Assumes nothing.
use Prim.Native.Nat.{ℕ, ◌+◌, ◌-◌, ◌*◌, ◌≤◌}
use native.Mathlib.Omega.{arith}
use mathlib.Core.Path.{◌≡◌, refl}
use mathlib.Core.Option.{Option, none, some}
use mathlib.Core.List.{List}
use lib.ListN.{drop}
use lib.Seq.{get_or-drop}
use lib.IntN.{pos, ◌+ℤ◌, ◌-ℤ◌}
use Rattle.integers.proofs.Parts.{parts_ext, sub_parts, add_parts}
use Rattle.lists.specs.Tabulate.{raster}
use Rattle.lists.proofs.Raster.{raster_ext}
use Rattle.model.specs.Plane.{plane_of, pick, around}
use Rattle.model.specs.Window.{window}
use Rattle.model.specs.Sound.{Bytes}
use Rattle.stage_values.specs.Place.{offset_of}
use Rattle.frame.specs.declared.Frame.{Frame}
use Rattle.frame.specs.Framed.{neighbours}
use Rattle.frame.specs.Padded.{column_at, row_at, row_pick, row_sample, padded}

-- ---- rows and the frame

module _ (f : Frame) (samples : List ℕ) (x y : ℕ) where
  -- a row of the frame
  pub padded-row : (v : ℕ) → row_at f y ≡ some v → row_sample f (drop (v * f.width) samples) x ≡ padded f samples x y
  unfolding padded row_pick pick plane_of
  padded-row v e = rw e (go (column_at f x))
    where
      go : (o : Option ℕ) → row_pick f.value (drop (v * f.width) samples) o ≡ pick f.value (plane_of f.width samples) o (some v)
      go none = refl
      go (some u) = get_or-drop (v * f.width) samples u 0

  -- a row of the border value
  pub padded_outside : row_at f y ≡ none → f.value ≡ padded f samples x y
  unfolding padded pick
  padded_outside e = rw e (go (column_at f x))
    where
      go : (o : Option ℕ) → f.value ≡ pick f.value (plane_of f.width samples) o none
      go none = refl
      go (some u) = refl

-- ---- neighbourhoods

-- an offset from column u or row v, all held 15 too large
offset-add : (u o : ℕ) → pos u +ℤ offset_of o ≡ offset_of (u + o)
unfolding offset_of
offset-add u o = parts_ext _ _ (omega (arith, sub_parts (pos o) (pos 15), sub_parts (pos (u + o)) (pos 15), add_parts (pos u) (pos o -ℤ pos 15)))

-- an offset from -r to r, counted from 0
offset-window : (u i r : ℕ) → r ≤ 15 → pos u +ℤ (pos i -ℤ pos r) ≡ offset_of (15 - r + u + i)
unfolding offset_of
offset-window u i r h =
    parts_ext _ _ (omega (arith, sub_parts (pos i) (pos r), sub_parts (pos (15 - r + u + i)) (pos 15), add_parts (pos u) (pos i -ℤ pos r)))

module _ (f : Frame) (samples : List ℕ) where
  -- what the model supplies around column u, row v
  pub around-padded : (u v o p : ℕ) → neighbours f samples u v (offset_of o) (offset_of p) ≡ padded f samples (u + o) (v + p)
  unfolding around padded
  around-padded u v o p = rw (offset-add u o, offset-add v p)

  -- the window of column u, row v
  pub window-padded : (r s u v : ℕ) → r ≤ 15 → s ≤ 15
      → window r s (neighbours f samples u v) ≡ raster (λ i j. padded f samples (15 - r + u + i) (15 - s + v + j)) (2 * r + 1) (2 * s + 1)
  unfolding window around padded
  window-padded r s u v h k = raster_ext _ _ (2 * r + 1) (2 * s + 1) (λ i j _ _. rw (offset-window u i r h, offset-window v j s k))

  -- bytes and a border value that is a byte supply bytes
  pub padded-le : (x y : ℕ) → f.value ≤ 255 → Bytes samples → padded f samples x y ≤ 255
  unfolding padded pick plane_of
  padded-le x y h k = go (column_at f x) (row_at f y)
    where
      go : (a b : Option ℕ) → pick f.value (plane_of f.width samples) a b ≤ 255
      go none b = h
      go (some u) none = h
      go (some u) (some v) = k (v * f.width + u)
