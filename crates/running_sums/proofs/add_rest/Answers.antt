-- `running_sums::add_rest` meets its contract: what is stored so far, in a place apart from the row above. Assumes nothing.
use Rattle.std.proofs.Common.{ℕ, ◌+◌, ◌%◌, ◌^◌, take, sym, ap, ◌∙◌, le_refl, add-zero, mod-eq_of_lt, le_antisymm, arith}
use Rattle.integers.specs.Sum.{sum}
use Rattle.lists.proofs.StoredAt.{stored, stored_none, stored_more}
use Rattle.running_sums.proofs.Blocks.{above_kept, running_more, running_added}
use Rattle.running_sums.proofs.add_rest.Goals as goal

pub loop-x-init : goal.loop-x-init
unfolding sum
loop-x-init c =
    (rw add-zero (sym (mod-eq_of_lt (omega (arith, c.ranges)))), stored_none _ _ _)

pub loop-x-preserved : goal.loop-x-preserved
loop-x-preserved c =
    let L = c.loop-x in
    let a = c.args in
    let p = c.requires in
    let t = c.loop-x-test.true in
    let r = a.row.now in
    let above = above_kept _ a.sums.now L.sums a.from a.to a.n L.x L.x (omega (arith, p.1)) p.3 (le_refl _) t L.invariant.1 in (
      rw c.from-running.ensures (running_more r a.total L.x L.running L.invariant.0 (omega (arith, t, p.2))),
      stored_more _ a.sums.now L.sums a.to L.x _ (omega (arith, t, p.1)) L.invariant.1
          (running_added r a.total L.x L.running L.invariant.0 _ ∙ ap (λ (b : ℕ). (b + (a.total + sum (take L.x r))) % 2 ^ 32) above),
    )

pub returns : goal.returns
unfolding stored
returns c =
    let L = c.loop-x in
    rw (le_antisymm L.auto.x-end c.loop-x-test.false) at L.invariant.1
