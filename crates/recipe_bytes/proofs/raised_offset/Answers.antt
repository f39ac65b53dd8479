-- `recipe_bytes::raised_offset` meets its contract. Assumes nothing.
use native.Mathlib.Omega.{arith}
use mathlib.Core.Path.{ap, ◌∙◌}
use lib.IntN.{pos}
use Rattle.recipe_bytes.proofs.ByteLaws.{raised}
use Rattle.recipe_bytes.proofs.raised_offset.Goals as goal

pub returns : goal.returns
returns c = (ap pos c.from.ensures ∙ raised c.args.b (omega arith), c.from.ensures, omega (arith, c.from.ensures))
