-- `taps::offsets_from` meets its contract. Assumes nothing.
use Prim.Native.Nat.{ℕ, ◌+◌}
use mathlib.Core.Path.{◌≡◌}
use mathlib.Core.List.{◌++◌}
use lib.ListN.{drop}
use Rattle.lists.specs.Tabulate.{tabulate}
use Rattle.recipe_bytes.specs.Bytes.{at}
use Rattle.taps.specs.Held.{held_offset}
use Rattle.taps.proofs.offsets_from.Given as goal

abbrev pub invariant-loop-i : goal.invariant-loop-i
invariant-loop-i l = l.held ≡ tabulate (λ (k : ℕ). held_offset (at l.part (l.o + k))) l.i ++ drop l.i l.initial.held
