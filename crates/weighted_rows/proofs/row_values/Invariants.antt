-- `weighted_rows::row_values` meets its contract: tap by tap. Assumes nothing.
use Prim.Native.Nat.{ℕ, ◌+◌}
use mathlib.Core.Path.{◌≡◌}
use mathlib.Core.List.{List, ◌++◌}
use lib.ListN.{get_or, drop}
use lib.IntN.{ℤ, pos}
use Rattle.lists.specs.Tabulate.{tabulate}
use Rattle.tap_sums.proofs.PartialSums.{partial}
use Rattle.weighted_rows.proofs.row_values.Given as goal

-- what stands at held offset o from column u
abbrev pub at_offset : List ℕ → ℕ → ℕ → ℤ
at_offset row u o = pos (get_or row (u + o) 0)

abbrev pub invariant-loop-k : goal.invariant-loop-k
invariant-loop-k l = l.sums ≡ tabulate (partial l.axis.taps.offsets l.axis.taps.weights (at_offset l.row) (pos 512) l.k) l.n ++ drop l.n l.initial.sums
