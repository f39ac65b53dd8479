-- Weighted work ('The three kinds of work') on a neighbourhood, by a horizontal and a vertical kernel.
use Rattle.std.specs.Prelude.{ℕ, ◌^◌, List, ℤ, pos, ◌+ℤ◌}
use Rattle.integers.specs.Divide.{floor_div, clamp}
use Rattle.model.specs.Plane.{Neighbourhood}
use Rattle.model.specs.Kernel.{Tap, Kernel, weighted_sum}
use Rattle.model.specs.Apportion.{apportion}

-- the row value h(u,v), which counts 64ths of a level and is not clamped: floor((sum of A·f(u+i, v) + 512) / 1,024)
unfoldable pub row_value : List Tap → (ℤ → ℕ) → ℤ
row_value A f = floor_div (weighted_sum A (λ i. pos (f i)) +ℤ pos 512) 1024

-- the level of a place, at least 0 and at most 255: floor((sum of B·h(u, v+j) + 2^21) / 2^22).
-- Row j is the neighbourhood's, wherever it lies: beyond the frame it is a row of what the frame rule supplies, with a row value like any other
unfoldable pub weighted_result : Kernel → Kernel → Neighbourhood → ℕ
weighted_result across down f =
    clamp 255 (floor_div (weighted_sum (apportion down) (λ j. row_value (apportion across) (λ i. f i j)) +ℤ pos (2 ^ 21)) (2 ^ 22))
