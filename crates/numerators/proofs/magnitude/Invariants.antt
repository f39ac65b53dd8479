-- `numerators::magnitude` meets its contract: the sum so far. Assumes nothing.
use Prim.Native.Nat.{ℕ}
use mathlib.Core.Path.{◌≡◌}
use lib.ListN.{get_or}
use lib.IntN.{nat_abs}
use Rattle.integers.specs.Sum.{sum}
use Rattle.lists.specs.Tabulate.{tabulate}
use Rattle.numerators.specs.Numerator.{numerator_of}
use Rattle.numerators.proofs.magnitude.Given as goal

abbrev pub invariant-loop-i : goal.invariant-loop-i
invariant-loop-i l = l.sum ≡ sum (tabulate (λ (k : ℕ). nat_abs (numerator_of (get_or l.values k 0))) l.i)
