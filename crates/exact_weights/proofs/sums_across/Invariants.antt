-- `exact_weights::sums_across` meets its contract: tap by tap. Assumes nothing.
use Prim.Native.Nat.{ℕ, ◌+◌}
use mathlib.Core.Path.{◌≡◌}
use mathlib.Core.List.{List, ◌++◌}
use lib.ListN.{get_or, drop}
use lib.IntN.{ℤ, pos}
use Rattle.lists.specs.Tabulate.{tabulate}
use Rattle.tap_sums.proofs.PartialSums.{partial}
use Rattle.exact_weights.proofs.sums_across.Given as goal

-- what stands at held offset o from column u
abbrev pub at_offset : List ℤ → ℕ → ℕ → ℤ
at_offset sums u o = get_or sums (u + o) (pos 0)

abbrev pub invariant-loop-k : goal.invariant-loop-k
invariant-loop-k l = l.wide ≡ tabulate (partial l.across.taps.offsets l.across.taps.weights (at_offset l.sums) (pos 0) l.k) l.w ++ drop l.w l.initial.wide
