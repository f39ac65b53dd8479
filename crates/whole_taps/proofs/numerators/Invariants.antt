-- `whole_taps::numerators` meets its contract: what is stored so far, then what was there. Assumes nothing.
use mathlib.Core.Path.{◌≡◌}
use lib.ListN.{length, get_or}
use Rattle.lists.proofs.Stored.{Stored}
use Rattle.numerators.specs.Numerator.{numerator_of}
use Rattle.whole_taps.proofs.numerators.Given as goal

abbrev pub invariant-loop-i : goal.invariant-loop-i
invariant-loop-i l = Stored (λ k. numerator_of (get_or l.values k 0)) l.n l.initial.weights l.weights l.i × (31 ≡ length l.initial.weights)
