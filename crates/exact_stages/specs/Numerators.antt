-- The exact results of one stage on a plane, as numerators.
use Rattle.std.specs.Prelude.{ℕ, List, ℤ}
use Rattle.model.specs.Plane.{plane_of, around}
use Rattle.model.specs.Stage.{Stage}
use Rattle.model.specs.Exact.{numerator}

-- the numerator at column u, row v, before it is clamped: the model's exact chain starts with the samples over 1, so the border value stands as it is
abbrev pub exact_numerator : ℕ → ℕ → Stage → List ℕ → ℕ → ℕ → ℤ
exact_numerator W H t samples u v = numerator t.work (around t.border t.value W H (plane_of W samples) u v)
