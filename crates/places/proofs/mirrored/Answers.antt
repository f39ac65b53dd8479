-- `places::mirrored` meets its contract: on each side of index 0 by its own law. Assumes nothing.
use mathlib.Core.Path.{sym, ◌∙◌}
use Rattle.places.proofs.PlaceLaws.{mirror_before, mirror_from}
use Rattle.places.proofs.mirrored.Goals as goal

pub returns-then-x-lt15 : goal.returns-then-x-lt15
returns-then-x-lt15 c =
    c.repeated.ensures ∙ sym (mirror_before _ _ c.requires.0 c.if-x-lt15.true)

pub returns-else-x-lt15 : goal.returns-else-x-lt15
returns-else-x-lt15 c =
    c.repeated-else-x-lt15.ensures ∙ sym (mirror_from _ _ c.if-x-lt15.false)
