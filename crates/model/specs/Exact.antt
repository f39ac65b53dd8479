-- The exact chain of 'Tolerance', without fractions: a plane of whole numerators, and one denominator N for all of them.
use Rattle.std.specs.Prelude.{ℕ, ◌*◌, List, [], ◌∷◌, ℤ, pos}
use Rattle.integers.specs.Divide.{clamp}
use Rattle.integers.specs.Sum.{sum}
use Rattle.lists.specs.Tabulate.{raster}
use Rattle.model.specs.Plane.{Plane, Neighbourhood, plane_of, around}
use Rattle.model.specs.Kernel.{weighted_sum}
use Rattle.model.specs.Window.{area, window}
use Rattle.model.specs.Rank.{smallest}
use Rattle.model.specs.Outline.{edge_strength}
use Rattle.model.specs.Stage.{Work, weighted, box, rank, outline, Stage}

-- the N after a work: weights multiply it by the D of both kernels (2^35 of reals, 2^(2r) of a binomial of radius r), a box by its window's area; a rank and an outline keep it
unfoldable pub denominator : ℕ → Work → ℕ
denominator N (weighted across down) = N * (across.divisor * down.divisor)
denominator N (box r s) = N * area r s
denominator N (rank r s p) = N
denominator N outline = N

-- the exact result before it is clamped, as a numerator over the new N: the sum of a·a'·x over the taps of both kernels, offsets added; the sum of the window; its p-th smallest; the edge strength
unfoldable pub numerator : Work → Neighbourhood → ℤ
numerator (weighted across down) x = weighted_sum down.taps (λ j. weighted_sum across.taps (λ i. pos (x i j)))
numerator (box r s) x = pos (sum (window r s x))
numerator (rank r s p) x = pos (smallest p (window r s x))
numerator outline x = pos (edge_strength (window 1 1 x))

-- an exact stage from N to N', the new denominator: its border value is brought to N, as value·N, and no numerator stays below 0 or above 255·N'
unfoldable pub exact_plane : ℕ → ℕ → ℕ → Stage → Plane → Plane
exact_plane W H N t x u v = clamp (255 * denominator N t.work) (numerator t.work (around t.border (t.value * N) W H x u v))

-- the numerators through all stages, from numerators over N
unfoldable pub exact_from : ℕ → ℕ → ℕ → List Stage → List ℕ → List ℕ
exact_from W H N [] x = x
exact_from W H N (t ∷ ts) x = exact_from W H (denominator N t.work) ts (raster (exact_plane W H N t (plane_of W x)) W H)

-- the denominator through all stages
unfoldable pub denominator_from : ℕ → List Stage → ℕ
denominator_from N [] = N
denominator_from N (t ∷ ts) = denominator_from (denominator N t.work) ts

-- the exact chain begins with the samples themselves, over 1
unfoldable pub exact : ℕ → ℕ → List Stage → List ℕ → List ℕ
exact W H ts samples = exact_from W H 1 ts samples

unfoldable pub exact_denominator : List Stage → ℕ
exact_denominator ts = denominator_from 1 ts
