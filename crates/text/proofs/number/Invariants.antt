-- `text::number` meets its contract: the number so far, cut, with the digits that are left has the value of the whole, cut. Assumes nothing.
use Prim.Native.Nat.{◌+◌, ◌≤◌, min}
use mathlib.Core.Path.{◌≡◌}
use lib.ListN.{length, drop}
use Rattle.text.specs.Text.{digits, value_from}
use Rattle.text.proofs.number.Given as goal

abbrev pub invariant-loop-len : goal.invariant-loop-len
invariant-loop-len l = (l.value ≤ 10000) × (min (value_from 0 (digits l.part)) 10000 ≡ min (value_from l.value (digits (drop l.len l.part))) 10000) × (length (digits l.part) ≡ l.len + length (digits (drop l.len l.part)))
