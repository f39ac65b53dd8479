-- What `as_full_table` says holds of larger radii too than the 15 that a recipe has at most. Assumes nothing.
use Prim.Native.Nat.{ℕ, ◌+◌, ◌*◌, ◌<◌}
use native.Mathlib.Omega.{arith}
use mathlib.Core.Path.{◌≡◌}
use mathlib.Core.List.{List}
use Rattle.frame.specs.declared.Frame.{Frame}
use Rattle.area_tables.specs.HeldTable.{HeldTable}
use Rattle.window_means.specs.WindowCorners.{corners_at, full_corners}
use Rattle.boxes.proofs.FullTable.{as_full_table}

-- radii of 16 + a across and 16 + b down: the edges of row v's windows are 2b + 33 rows apart
pub larger_radii : (f : Frame) (a b : ℕ) (samples sums : List ℕ) (v : ℕ) → HeldTable f (16 + a) (16 + b) samples (v + (2 * b + 33)) sums
    → (u : ℕ) → u < f.width → v < f.height → corners_at sums f.width (16 + a) (16 + b) u v ≡ full_corners f (16 + a) (16 + b) samples u v
larger_radii f a b samples sums v held =
    let rows : v + (2 * b + 33) ≡ v + (2 * (16 + b) + 1) = omega arith in
    as_full_table f (16 + a) (16 + b) samples sums v (rw rows at held)
