-- `axis_fields::offsets` meets its contract: the verdict on the whole is that on what is left. Assumes nothing.
use mathlib.Core.Path.{◌≡◌}
use Rattle.refusals.specs.Refusal.{verdict}
use Rattle.axis_fields.specs.AxisFields.{axis_tests}
use Rattle.axis_fields.proofs.OffsetLaws.{left}
use Rattle.axis_fields.proofs.offsets.Given as goal

abbrev pub invariant-loop-i : goal.invariant-loop-i
invariant-loop-i l = verdict (axis_tests l.n l.part) ≡ verdict (left l.least l.n l.i l.part l.part l.i l.least)
