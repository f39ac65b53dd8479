-- Held taps are the model's: the sums, the row values and the levels. Assumes nothing.
use Prim.Native.Nat.{ℕ, ◌+◌, ◌*◌, ◌-◌, ◌≤◌, ◌<◌}
use native.Mathlib.Nat.{mul-le-mul, le_trans}
use native.Mathlib.Omega.{arith}
use mathlib.Core.Path.{◌≡◌, refl, sym, ap, ◌∙◌}
use mathlib.Core.List.{List, [], ◌∷◌, map}
use lib.ListN.{length, get_or, length-map, length-take, get_or-map}
use lib.Seq.{ext_get_or}
use lib.IntN.{ℤ, pos, negsuc, nat_abs, ◌+ℤ◌}
use Rattle.integers.specs.Divide.{floor_div, clamp}
use Rattle.integers.proofs.Parts.{abs_parts, abs_add}
use Rattle.integers.proofs.Divide.{Floor, floor_law}
use Rattle.lists.specs.Tabulate.{tabulate, raster}
use Rattle.lists.proofs.Tabulate.{tabulate-get_or}
use Rattle.lists.proofs.Pairs.{pairs_at, pairs_raster}
use Rattle.lists.proofs.Raster.{get_or-raster}
use Rattle.model.specs.Kernel.{Tap, tap, Kernel, weighted_sum}
use Rattle.model.specs.Apportion.{share, apportion}
use Rattle.model.specs.Weighted.{row_value, weighted_result}
use Rattle.lists.proofs.Sums.{map-tabulate}
use Rattle.stage_values.specs.declared.Axis.{Axis}
use Rattle.stage_values.specs.Place.{offset_of}
use Rattle.stage_values.specs.Light.{Light}
use Rattle.stage_values.specs.Ready.{Ready}
use Rattle.frame.specs.declared.Frame.{Frame}
use Rattle.frame.specs.Framed.{neighbours}
use Rattle.frame.specs.Padded.{padded}
use Rattle.frame.proofs.Supplied.{around-padded}
use Rattle.tap_sums.specs.HeldSums.{held_tap, axis_sum, held_row, Reaches, row_of, level_of}
use Rattle.tap_sums.proofs.SumLaws.{held_size_lem, held_ext}
use Rattle.tap_sums.proofs.TapLists.{held_list}

-- taps with the same offsets and the same weights
tap-same : (s t : Tap) → s.offset ≡ t.offset → s.weight ≡ t.weight → s ≡ t
tap-same s t e f = ap (λ (o : ℤ). record { offset = o; weight = s.weight }) e ∙ ap (λ (a : ℤ). record { offset = t.offset; weight = a }) f

taps_same : (xs ys : List Tap) → map (λ t. t.offset) xs ≡ map (λ t. t.offset) ys → map (λ t. t.weight) xs ≡ map (λ t. t.weight) ys → xs ≡ ys
taps_same xs ys e f = ext_get_or none xs ys long (λ i b. tap-same _ _ (at (λ t. t.offset) e i) (at (λ t. t.weight) f i))
  where
    none : Tap
    none = record { offset = pos 0; weight = pos 0 }

    long : length xs ≡ length ys
    long = sym (length-map xs (λ t. t.offset)) ∙ ap length e ∙ length-map ys (λ t. t.offset)

    at : (g : Tap → ℤ) → map g xs ≡ map g ys → (i : ℕ) → g (get_or xs i none) ≡ g (get_or ys i none)
    at g e i = sym (get_or-map g xs i none) ∙ ap (λ (l : List ℤ). get_or l i (g none)) e ∙ get_or-map g ys i none

-- apportioning keeps the offsets
offsets_kept : (K : Kernel) (ts : List Tap) → map (λ t. t.offset) (map (share K) ts) ≡ map (λ t. t.offset) ts
unfolding share tap
offsets_kept K [] = refl
offsets_kept K (t ∷ ts) = ap (λ (l : List ℤ). t.offset ∷ l) (offsets_kept K ts)

-- ---- an axis that is ready holds the model's taps

module _ {K : Kernel} {a : Axis} (r : Ready K a) where
  enough : a.len ≤ length a.weights
  unfolding apportion
  enough =
      let e = ap length r.shares ∙ length-map (apportion K) (λ t. t.weight) ∙ length-map K.taps (share K) ∙ sym r.count in
      omega (arith, e, length-take a.len a.weights)

  taps_are : tabulate (held_tap a.offsets a.weights) a.len ≡ apportion K
  unfolding held_tap tap apportion
  taps_are =
      taps_same _ _
      (map-tabulate (λ t. t.offset) (held_tap a.offsets a.weights) a.len ∙ r.places ∙ sym (offsets_kept K K.taps))
      (map-tabulate (λ t. t.weight) (held_tap a.offsets a.weights) a.len ∙ tabulate-get_or a.weights (pos 0) a.len enough ∙ r.shares)

  pub held_model : (f : ℤ → ℤ) → axis_sum a (λ o. f (offset_of o)) ≡ weighted_sum (apportion K) f
  held_model f = held_list a.offsets a.weights f a.len ∙ ap (λ (ts : List Tap). weighted_sum ts f) taps_are

-- ---- levels

module _ {K L : Kernel} {across down : Axis} (a : Ready K across) (b : Ready L down) (f : Frame) (samples : List ℕ) (u v : ℕ) where
  row_model : (o : ℕ) → held_row across (padded f samples) u (v + o) ≡ row_value (apportion K) (λ i. neighbours f samples u v i (offset_of o))
  unfolding held_row row_of row_value
  row_model o =
      ap (λ (z : ℤ). floor_div (z +ℤ pos 512) 1024)
      (held_ext across.offsets across.weights _ _ across.len (λ i _. ap pos (sym (around-padded f samples u v (get_or across.offsets i 0) o))) ∙ held_model a (λ i. pos (neighbours f samples u v i (offset_of o))))

  -- the level that the code makes is the model's
  pub level_model : level_of (axis_sum down (λ o. held_row across (padded f samples) u (v + o))) ≡ weighted_result K L (neighbours f samples u v)
  unfolding level_of weighted_result
  level_model =
      ap (λ (z : ℤ). clamp 255 (floor_div (z +ℤ pos 2097152) 4194304))
      (held_ext down.offsets down.weights _ _ down.len (λ i _. row_model (get_or down.offsets i 0)) ∙ held_model b (λ j. row_value (apportion K) (λ i. neighbours f samples u v i j)))

-- a row value of bytes is no large number
floor_small : (z q : ℤ) → Floor z 1024 q → nat_abs z ≤ 66855137 → nat_abs q ≤ 65536
floor_small z (pos a) l h = omega (arith, l, abs_parts z)
floor_small z (negsuc a) l h = omega (arith, l, abs_parts z)

pub row_small : (a : Axis) (g : ℕ → ℕ → ℕ) → Light a → ((x y : ℕ) → g x y ≤ 255) → (u y : ℕ) → nat_abs (held_row a g u y) ≤ 65536
unfolding held_row row_of
row_small a g l h u y =
    let s = axis_sum a (λ o. pos (g (u + o) y)) in
    let e : nat_abs s ≤ 66854625 = le_trans (held_size_lem a.offsets a.weights (λ o. pos (g (u + o) y)) 255 (λ o. h (u + o) y) a.len) (mul-le-mul {n₂ = 262175} {m₂ = 255} l.size (omega arith)) in
    floor_small (s +ℤ pos 512) _ (floor_law (s +ℤ pos 512) 1024 (omega arith)) (omega (arith, e, abs_add s (pos 512)))

-- ---- row values in their place

module _ (across down : Axis) (w h first last : ℕ) (g : ℕ → ℕ → ℕ) where
  abbrev made : List ℤ
  made = raster (λ u y. held_row across g u (first + y)) w (h + (last - first))

  -- all are small
  pub made_small : Light across → ((x y : ℕ) → g x y ≤ 255) → (i : ℕ) → nat_abs (get_or made i (pos 0)) ≤ 65536
  made_small l b =
      pairs_at {R = λ (y x : ℤ). nat_abs y ≤ 65536} (pos 0) (pos 0) (omega arith)
      (pairs_raster _ (λ u y. pos 0) w (h + (last - first)) (λ u y. row_small across g l b u (first + y)))

  -- a tap down finds the row value that it asks for
  pub made_level : Reaches down.offsets down.len first last → (u v : ℕ) → u < w → v < h
      → level_of (axis_sum down (λ o. get_or made ((v + (o - first)) * w + u) (pos 0))) ≡ level_of (axis_sum down (λ o. held_row across g u (v + o)))
  made_level r u v bu bv =
      ap level_of
      (held_ext down.offsets down.weights _ _ down.len
      (λ i k. get_or-raster (λ u y. held_row across g u (first + y)) w (h + (last - first)) u (v + (get_or down.offsets i 0 - first)) (pos 0) bu (omega (arith, bv, (r.all i k).1)) ∙ ap (λ (y : ℕ). held_row across g u y) (same (get_or down.offsets i 0) (r.all i k).0)))
    where
      same : (o : ℕ) → first ≤ o → first + (v + (o - first)) ≡ v + o
      same o k = omega (arith, k)
