-- What must be lent for the box stages ('Who causes which refusal', and request 2026-09).
use Rattle.std.specs.Prelude.{ℕ, ◌+◌, ◌*◌, max, List, [], ◌∷◌}
use Rattle.model.specs.Stage.{Work, weighted, box, rank, outline, Stage}

-- the sums that a work holds: 2s+2 rows of W+2r+1 for a box, none for weights, a rank or an outline
unfoldable pub work_sums : ℕ → Work → ℕ
work_sums W (weighted across down) = 0
work_sums W (box r s) = (W + 2 * r + 1) * (2 * s + 2)
work_sums W (rank r s p) = 0
work_sums W outline = 0

-- the sums that all stages need: as they take turns, those of the one that holds most
unfoldable pub sum_need : ℕ → List Stage → ℕ
sum_need W [] = 0
sum_need W (t ∷ ts) = max (work_sums W t.work) (sum_need W ts)
