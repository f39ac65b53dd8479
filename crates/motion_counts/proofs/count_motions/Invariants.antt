-- `motion_counts::count_motions` meets its contract: the counts so far are those of the motions so far. Assumes nothing.
use Prim.Native.Nat.{◌+◌, ◌≤◌}
use mathlib.Core.Path.{◌≡◌}
use Rattle.lists.specs.Tabulate.{tabulate}
use Rattle.movement.specs.Motions.{moved_count, still_count}
use Rattle.motion_counts.proofs.Tally.{at}
use Rattle.motion_counts.proofs.count_motions.Given as goal

abbrev pub invariant-loop-i : goal.invariant-loop-i
invariant-loop-i l = (l.moved ≡ moved_count (tabulate (at l.limit l.tolerance1 l.tolerance2 l.first l.second) l.i)) × (l.still ≡ still_count (tabulate (at l.limit l.tolerance1 l.tolerance2 l.first l.second) l.i)) × (l.moved + l.still ≤ l.i)
