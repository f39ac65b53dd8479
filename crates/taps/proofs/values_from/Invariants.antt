-- `taps::values_from` meets its contract. Assumes nothing.
use Prim.Native.Nat.{ℕ, ◌+◌, ◌*◌}
use mathlib.Core.Path.{◌≡◌}
use mathlib.Core.List.{◌++◌}
use lib.ListN.{drop}
use Rattle.lists.specs.Tabulate.{tabulate}
use Rattle.axis_fields.specs.AxisFields.{weight_length}
use Rattle.taps.specs.TapBytes.{numerator_at}
use Rattle.taps.specs.Held.{held_numerator}
use Rattle.taps.proofs.values_from.Given as goal

abbrev pub invariant-loop-i : goal.invariant-loop-i
invariant-loop-i l = l.values ≡ tabulate (λ (k : ℕ). held_numerator (numerator_at l.real l.part (l.w + weight_length l.real * k))) l.i ++ drop l.i l.initial.values
