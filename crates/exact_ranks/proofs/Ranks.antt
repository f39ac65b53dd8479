-- A row of ranks is its own row of numerators. Assumes nothing.
use Prim.Native.Nat.{ℕ, ◌<◌}
use mathlib.Core.Path.{◌≡◌, ap}
use mathlib.Core.List.{List, ◌++◌}
use lib.ListN.{get_or, drop}
use lib.IntN.{ℤ, pos}
use Rattle.lists.specs.Tabulate.{tabulate}
use Rattle.lists.proofs.Tabulate.{filled_at}
use Rattle.model.specs.Rank.{rank_result}
use Rattle.model.specs.Stage.{rank}
use Rattle.model.specs.Exact.{numerator}
use Rattle.frame.specs.declared.Frame.{Frame}
use Rattle.frame.specs.Framed.{neighbours}

-- the numerator at column u, row v
abbrev pub rank_at : Frame → ℕ → ℕ → ℕ → List ℕ → ℕ → ℕ → ℤ
rank_at f r s p samples u v = numerator (rank r s p) (neighbours f samples u v)

pub row_ranks : (f : Frame) (r s p v : ℕ) (samples d levels : List ℕ)
    → levels ≡ tabulate (λ u. rank_result r s p (neighbours f samples u v)) f.width ++ drop f.width d
    → (u : ℕ) → u < f.width → pos (get_or levels u 0) ≡ rank_at f r s p samples u v
unfolding numerator rank_result
row_ranks f r s p v samples d levels e u h = ap pos (filled_at _ f.width d levels 0 u e h)
