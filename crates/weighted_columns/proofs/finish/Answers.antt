-- `weighted_columns::finish` meets its contract: what is stored so far, then what was there. Assumes nothing.
use Prim.Native.Nat.{◌-◌}
use mathlib.Core.Path.{◌≡◌, ◌∙◌}
use lib.ListN.{get_or}
use mir.Syntax.{w64}
use mir.Val.{to_z, of_z}
use lib.IntN.{pos}
use Rattle.lists.proofs.Stored.{stored_none, stored_more, stored_done}
use borrow.Author.Rules.{rules}
use Rattle.weighted_columns.proofs.finish.Goals as goal

pub loop-u-init : goal.loop-u-init
loop-u-init c =
    stored_none _ _ _

pub loop-u-preserved : goal.loop-u-preserved
loop-u-preserved c =
    let L = c.loop-u in
    let S = c.args.sums in
    let read : to_z w64 (of_z w64 (get_or S.now L.u (pos 0))) ≡ get_or S.now L.u (pos 0) = search rules in
    stored_more L.invariant c.requires.1 c.loop-u-test.true (c.level.ensures ∙ rw read)

pub returns : goal.returns
returns c =
    stored_done c.loop-u.invariant c.loop-u-test.false
