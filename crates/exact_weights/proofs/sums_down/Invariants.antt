-- `exact_weights::sums_down` meets its contract: tap by tap, each with the padded row that it reaches. Assumes nothing.
use Prim.Native.Nat.{ℕ, ◌+◌}
use mathlib.Core.Path.{◌≡◌}
use mathlib.Core.List.{List, ◌++◌}
use lib.ListN.{drop}
use lib.IntN.{ℤ, pos}
use Rattle.lists.specs.Tabulate.{tabulate}
use Rattle.frame.specs.declared.Frame.{Frame}
use Rattle.frame.specs.Padded.{padded}
use Rattle.tap_sums.proofs.PartialSums.{partial}
use Rattle.exact_weights.proofs.sums_down.Given as goal

-- the sample at place x of the row that held offset o reaches from row v
abbrev pub reached : Frame → List ℕ → ℕ → ℕ → ℕ → ℤ
reached frame plane v x o = pos (padded frame plane x (v + o))

abbrev pub invariant-loop-k : goal.invariant-loop-k
invariant-loop-k l = l.sums ≡ tabulate (partial l.down.taps.offsets l.down.taps.weights (reached l.frame l.plane l.v) (pos 0) l.k) l.n ++ drop l.n l.initial.sums
