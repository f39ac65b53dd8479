-- Squares in three rows that are held, and the levels that they give. Assumes nothing.
use Prim.Native.Nat.{ℕ, ◌+◌, ◌≤◌, ◌<◌, min}
use native.Mathlib.Omega.{arith}
use mathlib.Core.Path.{◌≡◌, sym, ap, ◌∙◌}
use mathlib.Core.List.{List}
use lib.ListN.{get_or, take, drop, length-drop}
use lib.Seq.{get_or-drop, get_or-take}
use Rattle.lists.specs.Tabulate.{tabulate, raster}
use Rattle.lists.proofs.Tabulate.{get_d_tabulate, tabulate_ext, tabulate-get_or}
use Rattle.model.specs.Window.{window}
use Rattle.model.specs.Outline.{edge_strength, outline_result}
use Rattle.frame.specs.declared.Frame.{Frame}
use Rattle.frame.specs.Framed.{neighbours}
use Rattle.frame.specs.Padded.{padded}
use Rattle.frame.proofs.Supplied.{window-padded}
use Rattle.outlines.specs.Square.{square_at}
use Rattle.kept_planes.specs.HeldRow.{Held}

module _ (f : Frame) (samples : List ℕ) where
  row_at : {y : ℕ} {row : List ℕ} → Held f samples y row → (x : ℕ) → x < f.width + 30 → get_or row x 0 ≡ padded f samples x y
  row_at {y} {row} h x k = sym (get_or-take (f.width + 30) row x 0 k) ∙ ap (λ (l : List ℕ). get_or l x 0) h.front ∙ get_d_tabulate (λ i. padded f samples i y) (f.width + 30) x 0 k

  -- three samples of it
  three-at : {y : ℕ} {row : List ℕ} → Held f samples y row → (x : ℕ) → x + 3 ≤ f.width + 30 → take 3 (drop x row) ≡ tabulate (λ i. padded f samples (x + i) y) 3
  three-at {y} {row} h x k =
      sym (tabulate-get_or (drop x row) 0 3 (rw length-drop (omega (arith, h.long, k))))
      ∙ tabulate_ext _ _ 3 (λ i b. get_or-drop x row i 0 ∙ row_at h (x + i) (omega (arith, k, b)))

  module _ (v : ℕ) {above here below : List ℕ} (a : Held f samples (14 + v) above) (h : Held f samples (15 + v) here) (b : Held f samples (16 + v) below) where
    -- the square around column u of the middle one of three rows
    square-window : (u : ℕ) → u < f.width → square_at above here below (14 + u) ≡ window 1 1 (neighbours f samples u v)
    unfolding square_at raster
    square-window u k =
        let there : 14 + u + 3 ≤ f.width + 30 = omega (arith, k) in
        let up : 14 + v ≡ 14 + v + 0 = omega arith in
        let at : 15 + v ≡ 14 + v + 1 = omega arith in
        let down : 16 + v ≡ 14 + v + 2 = omega arith in
        rw (three-at a (14 + u) there, three-at h (14 + u) there, three-at b (14 + u) there, up, at, down) (sym (window-padded f samples 1 1 u v (omega arith) (omega arith)))

    -- the levels of row v
    pub levels : tabulate (λ u. min (edge_strength (square_at above here below (14 + u))) 255) f.width ≡ tabulate (λ u. outline_result (neighbours f samples u v)) f.width
    unfolding outline_result
    levels = tabulate_ext _ _ f.width (λ u k. ap (λ (l : List ℕ). min (edge_strength l) 255) (square-window u k))
