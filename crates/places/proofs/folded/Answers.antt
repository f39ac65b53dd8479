-- `places::folded` meets its contract: half by half. Assumes nothing.
use mathlib.Core.Path.{sym}
use Rattle.model_laws.proofs.Border.{folded_low, folded_high}
use Rattle.places.proofs.folded.Goals as goal

pub returns-then-m-n : goal.returns-then-m-n
returns-then-m-n c =
    sym (folded_low c.if-m-n.true)

pub returns-else-m-n : goal.returns-else-m-n
returns-else-m-n c =
    sym (folded_high c.if-m-n.false)
