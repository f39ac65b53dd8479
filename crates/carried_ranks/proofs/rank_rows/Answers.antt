-- `carried_ranks::rank_rows` meets its contract: the rows so far. Assumes nothing.
use Prim.Native.Nat.{◌+◌, ◌*◌}
use native.Mathlib.Nat.{zero-mul}
use native.Mathlib.Omega.{arith}
use mathlib.Core.Path.{◌≡◌, refl}
use Rattle.frame.specs.Framed.{worked}
use Rattle.lists.proofs.Stored.{rows_stored_none, rows_stored_more, rows_stored_done}
use borrow.Author.Rules.{rules}
use Rattle.carried_ranks.proofs.rank_rows.Goals as goal

pub loop-v-init : goal.loop-v-init
loop-v-init c =
    (rw zero-mul (rows_stored_none _ _ _ _), refl)

pub loop-v-preserved : goal.loop-v-preserved
loop-v-preserved c =
    let w = c.args.frame.width in
    let next : (c.loop-v.v + 1) * w ≡ c.loop-v.v * w + w = omega arith in
    (rw next (rows_stored_more c.loop-v.invariant.0 c.loop-v-test.true _ c.requires.1 c.rank_row.ensures), search rules)

pub returns : goal.returns
unfolding worked
returns c =
    rows_stored_done c.loop-v.invariant.0 c.loop-v-test.false
