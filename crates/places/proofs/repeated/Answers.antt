-- `places::repeated` meets its contract: below 2n the remainder is the index itself. Assumes nothing.
use native.Mathlib.Nat.{mod-eq_of_lt, mod-lt}
use native.Mathlib.Omega.{arith}
use mathlib.Core.Path.{◌∙◌}
use Rattle.places.proofs.repeated.Goals as goal

pub folded-requires-else-k-n : goal.folded-requires-else-k-n
folded-requires-else-k-n c =
    (c.requires.1, mod-lt _ (omega arith))

pub returns-then-k-n : goal.returns-then-k-n
returns-then-k-n c =
    c.folded.ensures ∙ rw (mod-eq_of_lt c.if-k-n.true)

pub returns-else-k-n : goal.returns-else-k-n
returns-else-k-n c =
    c.folded-else-k-n.ensures
