-- `spare_units::ahead` meets its contract: the count so far. Assumes nothing.
use Prim.Native.Nat.{ℕ, ◌≤◌}
use mathlib.Core.Path.{◌≡◌}
use lib.ListN.{get_or}
use Rattle.lists.specs.Tabulate.{tabulate}
use Rattle.lists.specs.Count.{count}
use Rattle.unit_order.specs.Order.{before}
use Rattle.spare_units.proofs.ahead.Given as goal

abbrev pub invariant-loop-j : goal.invariant-loop-j
invariant-loop-j l = (l.found ≤ l.j) × (l.found ≡ count (λ (k : ℕ). before (get_or l.rest k 0) (get_or l.offsets k 0) (get_or l.rest l.i 0) (get_or l.offsets l.i 0)) (tabulate (λ (k : ℕ). k) l.j))
