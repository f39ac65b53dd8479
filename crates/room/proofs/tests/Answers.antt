-- `room::tests` meets its contract: one test after the other. Assumes nothing.
use mathlib.Core.Path.{sym, ◌∙◌}
use mathlib.Core.Logic.{inl, inr}
use Rattle.std.specs.Prelude.{Ok, Err}
use Rattle.refusals.specs.Refusal.{verdict}
use Rattle.room.proofs.Suffices.{Short, enough_passes, short_refused, by_needs}
use Rattle.room.proofs.tests.Goals as goal
use Rattle.room.proofs.tests.Goals.{then-lent-need-via-then-lent-need, then-lent-need-via-else-lent-need+then-lent-need-2, then-lent-need-via-else-lent-need+else-lent-need-2+then-lent-need-3, then-lent-need-via-else-lent-need+else-lent-need-2+else-lent-need-3+then-lent-need-4}

pub returns-then-lent-need : goal.returns-then-lent-need
unfolding verdict
returns-then-lent-need c =
    let need = c.needs-need.result in
    let short : Short need c.args.lent = elim c.then-lent-need.branch [
      | then-lent-need-via-then-lent-need w ↦ inl w.if-lent-need.true
      | then-lent-need-via-else-lent-need+then-lent-need-2 w ↦ inr (inl w.if-lent-need-2.true)
      | then-lent-need-via-else-lent-need+else-lent-need-2+then-lent-need-3 w ↦ inr (inr (inl w.if-lent-need-3.true))
      | then-lent-need-via-else-lent-need+else-lent-need-2+else-lent-need-3+then-lent-need-4 w ↦ inr (inr (inr w.if-lent-need-4.true))
    ] in
    sym (short_refused Err need c.args.lent (Ok tt) short) ∙ by_needs _ _ _ _ _ _ c.needs-need.ensures

pub returns : goal.returns
unfolding verdict
returns c =
    sym (enough_passes Err c.needs-need.result c.args.lent (Ok tt) c.if-lent-need.false c.if-lent-need-2.false c.if-lent-need-3.false c.if-lent-need-4.false)
    ∙ by_needs _ _ _ _ _ _ c.needs-need.ensures
