-- Outline work (kind 6, request 2026-01) on a neighbourhood: the strongest edge of four directions.
use Rattle.std.specs.Prelude.{ℕ, min, max, List, [], ◌∷◌, map, ℤ, pos, negsuc, nat_abs, ◌+ℤ◌, ◌*ℤ◌}
use Rattle.model.specs.Plane.{Neighbourhood}
use Rattle.model.specs.Window.{window}

-- the weights of the kernels
abbrev -1 : ℤ
-1 = negsuc 0

abbrev ·0 : ℤ
·0 = pos 0

abbrev +1 : ℤ
+1 = pos 1

-- a kernel of 3 by 3, row by row, top row first
abbrev square : ℤ → ℤ → ℤ → ℤ → ℤ → ℤ → ℤ → ℤ → ℤ → List ℤ
square a b c d e f g h i = a ∷ b ∷ c ∷ d ∷ e ∷ f ∷ g ∷ h ∷ i ∷ []

-- the four kernels, for edges that run down, across, and along the two diagonals
unfoldable pub outline_kernels : List (List ℤ)
outline_kernels =
    square
    -1 ·0 +1
    -1 ·0 +1
    -1 ·0 +1
    ∷ square
    -1 -1 -1
    ·0 ·0 ·0
    +1 +1 +1
    ∷ square
    ·0 +1 +1
    -1 ·0 +1
    -1 -1 ·0
    ∷ square
    -1 -1 ·0
    -1 ·0 +1
    ·0 +1 +1
    ∷ []

-- a kernel's response to the samples under it: the sum of each weight times its sample. Nothing is flipped
unfoldable pub response : List ℤ → List ℕ → ℤ
response [] xs = pos 0
response (a ∷ k) [] = pos 0
response (a ∷ k) (x ∷ xs) = a *ℤ pos x +ℤ response k xs

-- the largest of some numbers
unfoldable pub largest : List ℕ → ℕ
largest [] = 0
largest (x ∷ xs) = max x (largest xs)

-- the largest magnitude among the responses of all four, to nine samples, row by row
unfoldable pub edge_strength : List ℕ → ℕ
edge_strength xs = largest (map (λ k. nat_abs (response k xs)) outline_kernels)

-- the edge strength at a place, at most 255: offsets -1 to 1 across and down
unfoldable pub outline_result : Neighbourhood → ℕ
outline_result f = min (edge_strength (window 1 1 f)) 255
