-- `spare_units::remainders` meets its contract: the remainders and their count so far. Assumes nothing.
use Prim.Native.Nat.{ℕ, ◌≤◌}
use mathlib.Core.Path.{◌≡◌}
use mathlib.Core.List.{◌++◌}
use lib.Dec.{ltb}
use lib.ListN.{length, get_or, drop}
use Rattle.lists.specs.Tabulate.{tabulate}
use Rattle.lists.specs.Count.{count}
use Rattle.numerators.specs.Numerator.{remainder_of}
use Rattle.spare_units.proofs.remainders.Given as goal

abbrev pub invariant-loop-i : goal.invariant-loop-i
invariant-loop-i l = (l.rest ≡ tabulate (λ (k : ℕ). remainder_of (get_or l.values k 0) l.divisor) l.i ++ drop l.i l.initial.rest) × (31 ≡ length l.rest) × (l.rounded ≤ l.i) × (l.rounded ≡ count (ltb 0) (tabulate (λ (k : ℕ). remainder_of (get_or l.values k 0) l.divisor) l.i))
