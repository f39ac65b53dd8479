-- `axis_fields::reals` meets its contract: the verdict on the whole is that on what is left. Assumes nothing.
use Prim.Native.Nat.{◌-◌, ◌*◌}
use mathlib.Core.Path.{◌≡◌}
use lib.ListN.{drop}
use Rattle.refusals.specs.Refusal.{verdict}
use Rattle.axis_fields.specs.AxisFields.{real_tests}
use Rattle.axis_fields.proofs.reals.Given as goal

abbrev pub invariant-loop-i : goal.invariant-loop-i
invariant-loop-i l = verdict (real_tests l.n l.part) ≡ verdict (real_tests (l.n - l.i) (drop (4 * l.i) l.part))
