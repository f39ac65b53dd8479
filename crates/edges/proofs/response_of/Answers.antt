-- `edges::response_of` meets its contract: weight by weight. Assumes nothing.
use native.Mathlib.Omega.{arith}
use mathlib.Core.Path.{◌≡◌, ap, ◌∙◌}
use lib.ListN.{get_or}
use lib.IntN.{ℤ, pos, ◌+ℤ◌, ◌*ℤ◌}
use mir.Syntax.{w16}
use mir.Val.{to_z, of_z}
use Rattle.edges.proofs.Responses.{summed_none, summed_more, summed_all}
use borrow.Author.Rules.{rules}
use Rattle.edges.proofs.response_of.Goals as goal

pub loop-i-init : goal.loop-i-init
loop-i-init c =
    summed_none _ _

pub plus-sum-requires : goal.plus-sum-requires
plus-sum-requires c =
    let L = c.loop-i in
    let weight : to_z w16 (of_z w16 (get_or c.args.kernel L.i (pos 0))) ≡ get_or c.args.kernel L.i (pos 0) = search rules in
    (omega (arith, L.invariant.small, c.loop-i-test.true), rw weight (c.requires L.i))

pub loop-i-preserved : goal.loop-i-preserved
loop-i-preserved c =
    let a = c.args in
    let L = c.loop-i in
    let weight : to_z w16 (of_z w16 (get_or a.kernel L.i (pos 0))) ≡ get_or a.kernel L.i (pos 0) = search rules in
    let out : to_z w16 (of_z w16 c.plus-sum.result) ≡ c.plus-sum.result = search rules in
    let e = c.plus-sum.ensures in
    summed_more a.kernel a.square (search rules) (search rules) L.invariant c.loop-i-test.true
    (out ∙ e.0 ∙ ap (λ (z : ℤ). to_z w16 L.sum-bits +ℤ z *ℤ pos (get_or a.square L.i 0)) weight) (rw out e.1)

pub returns : goal.returns
returns c =
    summed_all c.args.kernel c.args.square (search rules) (search rules) c.loop-i.invariant c.loop-i-test.false
