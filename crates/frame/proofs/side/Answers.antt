-- `frame::side` meets its contract: what is stored so far, then what was there. Assumes nothing.
use native.Mathlib.Omega.{arith}
use Rattle.lists.proofs.Tabulate.{fill_none, fill_more}
use Rattle.frame.proofs.side.Goals as goal

pub loop-i-init : goal.loop-i-init
loop-i-init c =
    fill_none _ _

pub loop-i-preserved : goal.loop-i-preserved
loop-i-preserved c =
    fill_more _ _ _ _ _ (omega arith) c.loop-i.invariant c.sample.ensures
