-- `background_slots::largest_tolerance` meets its contract: the largest so far. Assumes nothing.
use Prim.Native.Nat.{ℕ, ◌+◌, ◌*◌}
use mathlib.Core.Path.{◌≡◌}
use lib.ListN.{get_or}
use Rattle.lists.specs.Tabulate.{tabulate}
use Rattle.model.specs.Outline.{largest}
use Rattle.background_slots.proofs.largest_tolerance.Given as goal

abbrev pub invariant-loop-i : goal.invariant-loop-i
invariant-loop-i l = l.most ≡ largest (tabulate (λ (j : ℕ). get_or l.labels (2 * j + 1) 0) l.i)
