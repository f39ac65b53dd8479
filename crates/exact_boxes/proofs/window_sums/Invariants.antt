-- `exact_boxes::window_sums` meets its contract: what is stored so far, and the next sum. Assumes nothing.
use mathlib.Core.Path.{◌≡◌}
use Rattle.lists.proofs.Stored.{Stored}
use Rattle.exact_boxes.specs.BoxSums.{run_sum}
use Rattle.exact_boxes.proofs.window_sums.Given as goal

abbrev pub invariant-loop-u : goal.invariant-loop-u
invariant-loop-u l = Stored (run_sum l.columns l.across) l.w l.initial.wide l.wide l.u × (l.sum ≡ run_sum l.columns l.across l.u)
