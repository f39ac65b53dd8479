-- Sums by the taps of an axis as the code holds them: offsets 15 too large, and whole weights (65,536ths in a stage, numerators in a verdict).
use Rattle.std.specs.Prelude.{ℕ, zero, suc, ◌+◌, ◌^◌, ◌≤◌, ◌<◌, List, get_or, ℤ, pos, ◌+ℤ◌, ◌*ℤ◌}
use Rattle.integers.specs.Divide.{floor_div, clamp}
use Rattle.model.specs.Kernel.{Tap, tap}
use Rattle.stage_values.specs.declared.Axis.{Axis}
use Rattle.stage_values.specs.Place.{offset_of}

-- tap i, as the model has it
unfoldable pub held_tap : List ℕ → List ℤ → ℕ → Tap
held_tap offsets weights i = tap (offset_of (get_or offsets i 0)) (get_or weights i (pos 0))

-- the weighted sum of the first n taps, g being what stands at each held offset
unfoldable pub held_sum : List ℕ → List ℤ → ℕ → (ℕ → ℤ) → ℤ
held_sum offsets weights zero g = pos 0
held_sum offsets weights (suc n) g = held_sum offsets weights n g +ℤ get_or weights n (pos 0) *ℤ g (get_or offsets n 0)

-- the weighted sum of all taps of an axis
abbrev pub axis_sum : Axis → (ℕ → ℤ) → ℤ
axis_sum a g = held_sum a.offsets a.weights a.len g

-- the row value, from the sum of weighted samples: floor((sum + 512) / 1,024)
unfoldable pub row_of : ℤ → ℤ
row_of sum = floor_div (sum +ℤ pos 512) 1024

-- the row value at column u of row y, p x y being the sample supplied at place x, y
unfoldable pub held_row : Axis → (ℕ → ℕ → ℕ) → ℕ → ℕ → ℤ
held_row a p u y = row_of (axis_sum a (λ o. pos (p (u + o) y)))

-- the level, from the sum of weighted row values, at least 0 and at most 255: floor((sum + 2^21) / 2^22)
unfoldable pub level_of : ℤ → ℕ
level_of sum = clamp 255 (floor_div (sum +ℤ pos (2 ^ 21)) (2 ^ 22))

-- the rows that the first n taps reach, their own among them, all held 15 too large
pub record Reaches (offsets : List ℕ) (n first last : ℕ) : Type 0 where
  pub own : (first ≤ 15) × (15 ≤ last)
  pub near : last ≤ 30
  pub all : (i : ℕ) → i < n → (first ≤ get_or offsets i 0) × (get_or offsets i 0 ≤ last)
