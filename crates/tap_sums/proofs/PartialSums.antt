-- Sums tap by tap along a row, across and down. Assumes nothing.
use Prim.Native.Nat.{ℕ, ◌+◌, ◌*◌, ◌-◌, ◌^◌, ◌≤◌, ◌<◌}
use native.Mathlib.Nat.{add_comm, mul-le-mul}
use native.Mathlib.Numerals.{add-one}
use native.Mathlib.Omega.{arith}
use mathlib.Core.Path.{◌≡◌, ap, ◌∙◌}
use mathlib.Core.List.{List, ◌++◌}
use lib.ListN.{length, get_or, drop, take}
use lib.Seq.{get_or-drop}
use lib.IntN.{ℤ, pos, nat_abs, ◌+ℤ◌, ◌*ℤ◌}
use Rattle.integers.specs.Divide.{floor_div, clamp}
use Rattle.lists.specs.Tabulate.{tabulate}
use Rattle.lists.proofs.Part.{tail_mid}
use Rattle.lists.proofs.Tabulate.{tabulate_ext, filled_at, refill}
use Rattle.lists.proofs.Raster.{row_fits}
use Rattle.stage_values.specs.declared.Axis.{Axis}
use Rattle.stage_values.specs.Size.{held_size}
use Rattle.stage_values.specs.Light.{Light}
use Rattle.tap_sums.specs.HeldSums.{held_sum, axis_sum, held_row, row_of, level_of}
use Rattle.integers.proofs.Parts.{abs_add}
use Rattle.tap_sums.proofs.SumLaws.{held_ext, held_size_lem, size_mono, half_last}

module _ (offsets : List ℕ) (weights : List ℤ) (g : ℕ → ℕ → ℤ) (half : ℤ) where
  -- the sum of the first k taps for column u, where g u o stands at held offset o, and the half
  unfoldable pub partial : ℕ → ℕ → ℤ
  partial k u = held_sum offsets weights k (g u) +ℤ half

  pub partial_more : (k n : ℕ) (d l m : List ℤ) (p : ℕ → ℤ) (t : ℤ) → t ≡ get_or weights k (pos 0) → ((u : ℕ) → u < n → p u ≡ g u (get_or offsets k 0))
      → l ≡ tabulate (partial k) n ++ drop n d → m ≡ tabulate (λ u. get_or l u (pos 0) +ℤ t *ℤ p u) n ++ drop n l
      → m ≡ tabulate (partial (k + 1)) n ++ drop n d
  unfolding partial held_sum
  partial_more k n d l m p t et ep el em =
      refill (partial k) (partial (k + 1)) _ n d l m (pos 0) el em
      (λ u b e. rw (e, et, ep u b, add-one) (half_last (held_sum offsets weights k (g u)) half _))

  -- no sum on the way is large
  pub partial_size : (M : ℕ) → ((u o : ℕ) → nat_abs (g u o) ≤ M) → (k n : ℕ) → k ≤ n → held_size weights n ≤ 262175 → (u : ℕ) → nat_abs (partial k u) ≤ 262175 * M + nat_abs half
  unfolding partial
  partial_size M h k n l s u =
      omega (arith, abs_add (held_sum offsets weights k (g u)) half, held_size_lem offsets weights (g u) M (h u) k, mul-le-mul {m₁ = M} {m₂ = M} (le k n l s) (omega arith))
    where
      le : (k n : ℕ) → k ≤ n → held_size weights n ≤ 262175 → held_size weights k ≤ 262175
      le k n l s = omega (arith, size_mono weights k n l, s)

-- what stands `at` further in a row, counted from the column
pub shifted : {A : Type 0} (row : List A) (at u : ℕ) (a : A) → get_or (take (length row - at) (drop at row)) u a ≡ get_or row (u + at) a
shifted row at u a = rw (tail_mid at row) (get_or-drop at row u a ∙ ap (λ (k : ℕ). get_or row k a) (add_comm at u))

-- the row values of a row that was supplied
pub row-supplied : (a : Axis) (w y : ℕ) (p : ℕ → ℕ → ℕ) (d row : List ℕ) → Light a
    → row ≡ tabulate (λ x. p x y) (w + 30) ++ drop (w + 30) d
    → tabulate (λ u. row_of (axis_sum a (λ o. pos (get_or row (u + o) 0)))) w ≡ tabulate (λ u. held_row a p u y) w
unfolding held_row
row-supplied a w y p d row l e =
    tabulate_ext _ _ w (λ u b. ap row_of (held_ext a.offsets a.weights _ _ a.len (λ i k. ap pos (filled_at _ (w + 30) d row 0 (u + get_or a.offsets i 0) e (omega (arith, b, l.near i k))))))

-- the last row that a tap reaches is there
pub column_fits : (v h o first last w : ℕ) → v < h → o ≤ last → v * w + ((o - first) * w + w) ≤ (h + (last - first)) * w
column_fits v h o first last w b l = go (o - first) (last - first) (omega (arith, l))
  where
    go : (d e : ℕ) → d ≤ e → v * w + (d * w + w) ≤ (h + e) * w
    go d e k = omega (arith, row_fits (v + d) (h + e) w (omega (arith, b, k)))

module _ (a : Axis) (w first : ℕ) (rows : List ℤ) where
  -- the level at column u, row v
  unfoldable pub level_at : ℕ → ℕ → ℕ
  level_at u v = level_of (axis_sum a (λ o. get_or rows ((v + (o - first)) * w + u) (pos 0)))

  -- a row of levels, from sums over the rows that start at row v
  pub level-row : (v at : ℕ) (d sums : List ℤ) → at ≡ v * w
      → sums ≡ tabulate (λ u. axis_sum a (λ o. get_or (take (length rows - at) (drop at rows)) ((o - first) * w + u) (pos 0)) +ℤ pos (2 ^ 21)) w ++ drop w d
      → tabulate (λ u. clamp 255 (floor_div (get_or sums u (pos 0)) (2 ^ 22))) w ≡ tabulate (λ u. level_at u v) w
  unfolding level_at level_of
  level-row v at d sums e es =
      tabulate_ext _ _ w (λ u b. ap (λ (z : ℤ). clamp 255 (floor_div z 4194304)) (filled_at _ w d sums (pos 0) u es b ∙ ap (λ (z : ℤ). z +ℤ pos 2097152)
      (held_ext a.offsets a.weights _ _ a.len (λ i k. rw (tail_mid at rows) (get_or-drop at rows _ (pos 0) ∙ ap (λ (j : ℕ). get_or rows j (pos 0)) (same (get_or a.offsets i 0) u))))))
    where
      same : (o u : ℕ) → at + ((o - first) * w + u) ≡ (v + (o - first)) * w + u
      same o u = omega (arith, e)
