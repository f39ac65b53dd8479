-- `row_sums::finish` meets its contract: what is stored so far, then what was there. Assumes nothing.
use mathlib.Core.Path.{◌≡◌, ◌∙◌}
use lib.ListN.{get_or}
use mir.Syntax.{w32}
use mir.Val.{to_z, of_z}
use lib.IntN.{pos}
use Rattle.lists.proofs.Stored.{stored_none, stored_more, stored_next, stored_done}
use borrow.Author.Rules.{rules}
use Rattle.row_sums.proofs.finish.Goals as goal

pub loop-u-init : goal.loop-u-init
loop-u-init c =
    stored_none _ _ _

pub loop-u-preserved : goal.loop-u-preserved
loop-u-preserved c =
    let L = c.loop-u in
    let out : to_z w32 (of_z w32 c.in_64ths.result) ≡ c.in_64ths.result = search rules in
    let read : to_z w32 (of_z w32 (get_or L.sums L.u (pos 0))) ≡ get_or L.sums L.u (pos 0) = search rules in
    stored_more L.invariant c.requires c.loop-u-test.true (out ∙ c.in_64ths.ensures ∙ rw (read, stored_next (pos 0) L.invariant))

pub returns : goal.returns
returns c =
    stored_done c.loop-u.invariant c.loop-u-test.false
