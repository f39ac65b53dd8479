-- `binomials::numerators` meets its contract. Assumes nothing.
use Prim.Native.Nat.{ℕ, ◌+◌, ◌*◌, ◌^◌}
use mathlib.Core.Path.{◌≡◌}
use mathlib.Core.List.{◌++◌}
use lib.ListN.{length, drop}
use Rattle.lists.specs.Tabulate.{tabulate}
use Rattle.model.specs.Binomial.{choose}
use Rattle.binomials.proofs.numerators.Given as goal

abbrev pub invariant-loop-k : goal.invariant-loop-k
invariant-loop-k l = (l.held ≡ tabulate (λ (i : ℕ). 2 ^ 38 + choose (2 * l.r) i) l.k ++ drop l.k l.initial.held) × (31 ≡ length l.held)
