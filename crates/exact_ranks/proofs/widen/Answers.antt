-- `exact_ranks::widen` meets its contract: what is stored so far, then what was there. Assumes nothing.
use native.Mathlib.Omega.{arith}
use mir.Syntax.{w64}
use Rattle.std.proofs.lemmas.Int.{to_z_pos}
use Rattle.lists.proofs.Stored.{stored_none, stored_more}
use Rattle.exact_ranks.proofs.widen.Goals as goal

pub loop-u-init : goal.loop-u-init
loop-u-init c =
    stored_none _ _ _

pub loop-u-preserved : goal.loop-u-preserved
loop-u-preserved c =
    stored_more c.loop-u.invariant c.requires.1 c.loop-u-test.true (rw c.from.ensures (to_z_pos w64 _ (omega (arith, (c.type_inv.levels c.loop-u.u).fits))))
