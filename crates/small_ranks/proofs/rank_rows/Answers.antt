-- `small_ranks::rank_rows` meets its contract: the results so far, with the rows of the next windows in hand. Assumes nothing.
use Prim.Native.Nat.{◌+◌, ◌-◌, ◌*◌}
use native.Mathlib.Nat.{zero-mul}
use native.Mathlib.Omega.{arith}
use mathlib.Core.Path.{◌≡◌, refl}
use Rattle.frame.specs.Framed.{worked}
use Rattle.lists.proofs.Stored.{rows_stored_none, rows_stored_more, rows_stored_done}
use borrow.Author.Rules.{rules}
use Rattle.small_ranks.proofs.rank_rows.Goals as goal

pub loop-v-init : goal.loop-v-init
loop-v-init c =
    let start : 14 - c.args.rank.window.s + 0 ≡ 14 - c.args.rank.window.s = omega arith in
    (rw zero-mul (rows_stored_none _ _ _ _), rw start c.first_rows.ensures, search rules, refl)

pub loop-v-preserved : goal.loop-v-preserved
loop-v-preserved c =
    let w = c.args.frame.width in
    let next : (c.loop-v.v + 1) * w ≡ c.loop-v.v * w + w = omega arith in
    (rw next (rows_stored_more c.loop-v.invariant.0 c.loop-v-test.true _ c.requires.3 c.rank_row.ensures.0), c.rank_row.ensures.1, search rules, search rules)

pub returns : goal.returns
unfolding worked
returns c =
    rows_stored_done c.loop-v.invariant.0 c.loop-v-test.false
