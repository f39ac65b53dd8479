-- `exact_boxes::first_sum` meets its contract: column by column. Assumes nothing.
use Prim.Native.Nat.{◌*◌, ◌^◌, ◌≤◌}
use mathlib.Core.Path.{◌≡◌}
use lib.IntN.{nat_abs}
use Rattle.exact_boxes.specs.BoxSums.{run_sum}
use Rattle.exact_boxes.proofs.first_sum.Given as goal

abbrev pub invariant-loop-x : goal.invariant-loop-x
invariant-loop-x l = (l.sum ≡ run_sum l.columns l.x-index 0) × (nat_abs (run_sum l.columns l.x-index 0) ≤ l.x-index * 2 ^ 31)
