-- `weighted_columns::column_sums` meets its contract: tap by tap. Assumes nothing.
use Prim.Native.Nat.{ℕ, ◌+◌, ◌*◌, ◌-◌, ◌≤◌}
use mathlib.Core.Path.{◌≡◌}
use mathlib.Core.List.{List, ◌++◌}
use lib.ListN.{length, get_or, drop}
use lib.IntN.{ℤ, pos}
use Rattle.lists.specs.Tabulate.{tabulate}
use Rattle.tap_sums.proofs.PartialSums.{partial}
use Rattle.weighted_columns.proofs.column_sums.Given as goal

-- what stands at held offset o from column u
abbrev pub at_offset : List ℤ → ℕ → ℕ → ℕ → ℕ → ℤ
at_offset rows w first u o = get_or rows ((o - first) * w + u) (pos 0)

abbrev pub invariant-loop-k : goal.invariant-loop-k
invariant-loop-k l = l.sums ≡ tabulate (partial l.axis.taps.offsets l.axis.taps.weights (at_offset l.rows l.w l.first) (pos 2097152) l.k) l.w ++ drop l.w l.initial.sums
