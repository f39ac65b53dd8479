-- `exact_boxes::window_sums` meets its contract: what is stored so far, and the next sum. Assumes nothing.
use Prim.Native.Nat.{◌+◌}
use native.Mathlib.Omega.{arith}
use mathlib.Core.Path.{◌≡◌, ◌∙◌}
use lib.ListN.{get_or}
use lib.IntN.{pos}
use mir.Syntax.{w32, w64}
use mir.Val.{to_z, of_z}
use Rattle.lists.proofs.Stored.{stored_none, stored_more, stored_done}
use Rattle.exact_boxes.proofs.RunLaws.{run_next, run-size}
use borrow.Author.Rules.{rules}
use Rattle.exact_boxes.proofs.window_sums.Goals as goal

pub first_sum-sum-requires : goal.first_sum-sum-requires
first_sum-sum-requires c =
    (c.requires.0, omega (arith, c.requires.2))

pub loop-u-init : goal.loop-u-init
loop-u-init c =
    let out : to_z w64 (of_z w64 c.first_sum-sum.result) ≡ c.first_sum-sum.result = search rules in
    (stored_none _ _ _, out ∙ c.first_sum-sum.ensures)

pub slid-sum-requires : goal.slid-sum-requires
slid-sum-requires c =
    let a = c.args in
    let p = c.requires in
    let L = c.loop-u in
    let size = run-size a.columns.now a.across L.u 2147483648 (λ i b. p.4 (L.u + i) (omega (arith, b, c.loop-u-test.true))) in
    rw L.invariant.1 (omega (arith, size, p.0))

pub loop-u-preserved : goal.loop-u-preserved
loop-u-preserved c =
    let a = c.args in
    let p = c.requires in
    let L = c.loop-u in
    let columns = a.columns.now in
    let out : to_z w64 (of_z w64 c.slid-sum.result) ≡ c.slid-sum.result = search rules in
    let leaves : to_z w32 (of_z w32 (get_or columns L.u (pos 0))) ≡ get_or columns L.u (pos 0) = search rules in
    let enters : to_z w32 (of_z w32 (get_or columns (L.u + a.across) (pos 0))) ≡ get_or columns (L.u + a.across) (pos 0) = search rules in
    (stored_more L.invariant.0 p.3 c.loop-u-test.true L.invariant.1, out ∙ c.slid-sum.ensures ∙ rw (leaves, enters, L.invariant.1) (run_next columns a.across L.u))

pub returns : goal.returns
returns c =
    stored_done c.loop-u.invariant.0 c.loop-u-test.false
