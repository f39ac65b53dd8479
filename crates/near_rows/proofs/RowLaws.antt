-- A channel row by row: all rows so far are near, and the first that is not decides. Assumes nothing.
use Prim.Native.Nat.{ℕ, ◌+◌, ◌≤◌, ◌<◌}
use native.Mathlib.Nat.{le_antisymm, mul-le-mul}
use native.Mathlib.Omega.{arith}
use mathlib.Core.Path.{◌≡◌, sym, ap, ◌∙◌}
use mathlib.Core.Bool.{Bool, true, false, not}
use mathlib.Core.List.{List}
use lib.IntN.{ℤ}
use borrow.Author.Tests.{not-true, not-false}
use Rattle.near_rows.specs.declared.Channel.{Channel}
use Rattle.near_rows.specs.Near.{near_clamped}
use Rattle.near_rows.specs.Everywhere.{everywhere}
use Rattle.near_rows.specs.Places.{sample_at, row_near, channel_near, Inside}
use Rattle.near_rows.proofs.EverywhereLaws.{everywhere-none, everywhere-more, everywhere_fails, everywhere_ext}

module _ (c N W H : ℕ) (ch : Channel) (raster : List ℕ) (z : ℕ → ℕ → ℤ) where
  -- the first v rows are near
  abbrev pub RowsNear : ℕ → Type 0
  RowsNear v = everywhere v (row_near c N W ch raster z) ≡ true

  pub no_rows : RowsNear 0
  no_rows = everywhere-none _

  -- what the test of row v gave, where l has the row's numerators
  module _ (v : ℕ) (l : ℕ → ℤ) (r : Bool) (is : (u : ℕ) → u < W → l u ≡ z u v)
      (gave : r ≡ everywhere W (λ u. near_clamped c N (sample_at W ch raster u v) (l u))) where
    row-tested : r ≡ row_near c N W ch raster z v
    row-tested = gave ∙ everywhere_ext _ _ W (λ u h. ap (near_clamped c N (sample_at W ch raster u v)) (is u h))

    pub one-row-more : RowsNear v → not r ≡ false → RowsNear (v + 1)
    one-row-more so_far e = everywhere-more _ v so_far (sym row-tested ∙ not-false r e)

    pub row-not-near : v < H → not r ≡ true → false ≡ channel_near c N W H ch raster z
    unfolding channel_near
    row-not-near h e = sym (everywhere_fails _ H v h (sym row-tested ∙ not-true r e))

  pub all-rows-near : (v : ℕ) → v ≤ H → H ≤ v → RowsNear v → true ≡ channel_near c N W H ch raster z
  unfolding channel_near
  all-rows-near v a b so_far = sym (rw (le_antisymm a b) at so_far)

row_in : {v H : ℕ} → v < H → v + 1 ≤ H
row_in h = omega (arith, h)

-- a row of a raster that is inside
pub rows_inside : {W H v : ℕ} {ch : Channel} {raster : List ℕ} → Inside W H ch raster → v < H → Inside W (v + 1) ch raster
rows_inside {W} {H} {v} {ch} i h = record {
  few = i.few;
  one = i.one;
  whole = omega (arith, i.whole, mul-le-mul {m₁ = ch.channels} {m₂ = ch.channels} (mul-le-mul {m₁ = W} {m₂ = W} (row_in h) (omega arith)) (omega arith));
}
