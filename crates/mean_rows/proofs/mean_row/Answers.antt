-- `mean_rows::mean_row` meets its contract: what is stored so far, then what was there. Assumes nothing.
use Rattle.std.proofs.Common.{ℕ, ◌+◌, ◌*◌, ◌/◌, ap, ◌∙◌}
use Rattle.lists.proofs.Stored.{stored_none, stored_more, stored_done}
use Rattle.mean_rows.proofs.mean_row.Goals as goal

pub loop-u-init : goal.loop-u-init
loop-u-init c =
    stored_none _ _ _

pub mean-requires : goal.mean-requires
mean-requires c =
    let p = c.requires in
    (p.3, p.4, rw c.window_sum.ensures (p.6 c.loop-u.u c.loop-u-test.true), p.5)

pub loop-u-preserved : goal.loop-u-preserved
loop-u-preserved c =
    let n = c.args.area in
    stored_more c.loop-u.invariant c.requires.0 c.loop-u-test.true (c.mean.ensures ∙ ap (λ (t : ℕ). (2 * t + n) / (2 * n)) c.window_sum.ensures)

pub returns : goal.returns
returns c =
    stored_done c.loop-u.invariant c.loop-u-test.false
