-- What every stage of a recipe that is read has, and the tolerance theorem needs: each D above 0, p at least 1 and at most the area, a border value that is a byte.
-- (Outside these the definitions still compute, to nothing of meaning: p 0 acts as 1, and p past the area gives 0.)
use Rattle.std.specs.Prelude.{ℕ, ◌≤◌, ◌<◌, List, [], ◌∷◌, get_or}
use Rattle.model.specs.Window.{area}
use Rattle.model.specs.Stage.{Work, weighted, box, rank, outline, Stage}

abbrev pub SoundWork : Work → Type 0
SoundWork (weighted across down) = (0 < across.divisor) × (0 < down.divisor)
SoundWork (box r s) = Unit {0}
SoundWork (rank r s p) = (1 ≤ p) × (p ≤ area r s)
SoundWork outline = Unit {0}

abbrev pub Sound : List Stage → Type 0
Sound [] = Unit {0}
Sound (t ∷ ts) = SoundWork t.work × (t.value ≤ 255) × Sound ts

-- samples are bytes
abbrev pub Bytes : List ℕ → Type 0
Bytes samples = (i : ℕ) → get_or samples i 0 ≤ 255
