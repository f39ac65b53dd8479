-- A row with its two sides, put together from three parts. Assumes nothing.
use Prim.Native.Nat.{ℕ, ◌+◌, ◌*◌, ◌-◌, ◌≤◌, ◌<◌}
use native.Mathlib.Nat.{mul-le-mul}
use native.Mathlib.Omega.{arith}
use mathlib.Core.Path.{◌≡◌, sym, ap, ◌∙◌}
use mathlib.Core.List.{List, ◌++◌, append_assoc}
use lib.ListN.{length, drop, take}
use lib.Seq.{take_at, drop_at, drop-drop}
use Rattle.lists.specs.Tabulate.{tabulate}
use Rattle.lists.proofs.Tabulate.{fill_part, length-tabulate, tabulate-add, tabulate_ext, tabulate-get_or}
use Rattle.lists.proofs.Raster.{row_fits}
use Rattle.model_laws.proofs.Border.{supply_identity}
use Rattle.stage_values.specs.Stands.{border_is}
use Rattle.places.proofs.PlaceLaws.{from}
use Rattle.frame.specs.declared.Frame.{Frame}
use Rattle.frame.specs.Framed.{Framed}
use Rattle.frame.specs.Padded.{row_pick, row_sample}

module _ (f : Frame) (row : List ℕ) (h : f.width ≤ length row) where
  -- the row itself is what the rule supplies between the sides
  row_itself : take f.width row ≡ tabulate (λ i. row_sample f row (15 + i)) f.width
  unfolding row_pick
  row_itself = sym (tabulate-get_or row 0 f.width h) ∙ tabulate_ext _ _ f.width (λ i k. rw (from (15 + i) (omega arith), add_sub i, supply_identity (border_is f.border) f.width i k))
    where
      add_sub : (i : ℕ) → 15 + i - 15 ≡ i
      add_sub i = omega arith

  -- after the left side, in a buffer that was d
  middle : (d l p : List ℕ) → l ≡ tabulate (row_sample f row) 15 ++ drop 15 d → p ≡ take f.width row
      → take 15 l ++ (p ++ drop (15 + f.width - 15) (drop 15 l)) ≡ tabulate (row_sample f row) (15 + f.width) ++ drop (15 + f.width) d
  middle d l p el ep =
      let front = tabulate (row_sample f row) 15 in
      let n = length-tabulate (row_sample f row) 15 in
      let k : 15 + f.width - 15 ≡ f.width = omega arith in
      rw (k, ep ∙ row_itself, tabulate-add (row_sample f row) 15 f.width, el, take_at front (drop 15 d) 15 n, drop_at front (drop 15 d) 15 n, drop-drop, append_assoc)

  pub row_with_sides : (d l p q : List ℕ)
      → l ≡ tabulate (λ i. row_sample f row (0 + i)) 15 ++ drop 15 d
      → p ≡ take f.width row
      → let m = take 15 l ++ (p ++ drop (15 + f.width - 15) (drop 15 l)) in
      q ≡ tabulate (λ i. row_sample f row (15 + f.width + i)) 15 ++ drop 15 (take (length m - (15 + f.width)) (drop (15 + f.width) m))
      → take (15 + f.width) m ++ (q ++ drop (length m - (15 + f.width)) (drop (15 + f.width) m)) ≡ tabulate (row_sample f row) (f.width + 30) ++ drop (f.width + 30) d
  row_with_sides d l p q el ep eq =
      let w = f.width in
      let at = row_sample f row in
      let e : 15 + w + 15 ≡ w + 30 = omega arith in
      let el' : l ≡ tabulate at 15 ++ drop 15 d = el ∙ ap (λ (t : List ℕ). t ++ drop 15 d) (tabulate_ext _ at 15 (λ i k. ap at (omega arith))) in
      rw e at (fill_part at (15 + w) 15 d _ q (middle d l p el' ep) eq)

module _ {f : Frame} {samples : List ℕ} (v : ℕ) (h : Framed f samples) (k : v < f.height) where
  -- a row that is inside lies within the samples
  pub row-there : v * f.width + f.width ≤ length samples
  row-there = omega (arith, row_fits v f.height f.width k, h.whole)

  -- and its place is no large number
  pub row_small : v * f.width ≤ 67108864
  row_small = mul-le-mul {n₂ = 8192} {m₂ = 8192} (omega (arith, k, h.height.1)) h.width.1
