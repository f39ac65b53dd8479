-- `text::separators` meets its contract: what is counted so far and what the rest counts make the whole. Assumes nothing.
use Prim.Native.Nat.{◌+◌}
use mathlib.Core.Path.{◌≡◌}
use mathlib.Core.Bool.{false}
use lib.ListN.{drop}
use Rattle.text.specs.Text.{gap}
use Rattle.text.proofs.separators.Given as goal

abbrev pub invariant-loop-i : goal.invariant-loop-i
invariant-loop-i l = gap false l.part ≡ l.i + gap l.comment (drop l.i l.part)
