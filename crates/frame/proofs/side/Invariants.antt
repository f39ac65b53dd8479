-- `frame::side` meets its contract: what is stored so far, then what was there. Assumes nothing.
use Prim.Native.Nat.{◌+◌}
use mathlib.Core.Path.{◌≡◌}
use mathlib.Core.List.{◌++◌}
use lib.ListN.{drop}
use Rattle.lists.specs.Tabulate.{tabulate}
use Rattle.frame.specs.Padded.{row_sample}
use Rattle.frame.proofs.side.Given as goal

abbrev pub invariant-loop-i : goal.invariant-loop-i
invariant-loop-i l = l.dst ≡ tabulate (λ k. row_sample l.frame l.row (l.from + k)) l.i ++ drop l.i l.initial.dst
