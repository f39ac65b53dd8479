-- `movement_filter::count_movement` meets its contract: by what the runs come to. Assumes nothing.
use native.Mathlib.Omega.{arith}
use Rattle.std.proofs.lemmas.Result.{err_from_is_err_and}
use Rattle.movement_answers.proofs.Shown.{shown, plan_refuses}
use Rattle.movement_runs.specs.RunsBoth.{run_on}
use Rattle.movement_filter.proofs.MovementPromise.{plan_of_runs, countable, movement_counted, movement_refused}
use Rattle.movement_filter.proofs.count_movement.Goals as goal

pub run-requires : goal.run-requires
run-requires c =
    let a = c.args in
    let first = run_on a.recipe1.now a.still1.now a.work.now a.rows.now a.sums.now a.out1.now in
    let second = run_on a.recipe2.now a.still2.now a.work.now a.rows.now a.sums.now a.out2.now in
    let plan = plan_of_runs a.limit first second c.lent_to-lent1.ensures c.lent_to-lent2.ensures c.in_ok-pair.ensures in
    countable a.limit first second (shown a.limit first second plan)

pub returns-in_err-pair : goal.returns-in_err-pair
returns-in_err-pair c =
    let a = c.args in
    let first = run_on a.recipe1.now a.still1.now a.work.now a.rows.now a.sums.now a.out1.now in
    let second = run_on a.recipe2.now a.still2.now a.work.now a.rows.now a.sums.now a.out2.now in
    let plan = plan_of_runs a.limit first second c.lent_to-lent1.ensures c.lent_to-lent2.ensures c.in_err-pair.ensures in
    let p = err_from_is_err_and c.from_residual.result c.from_residual.ensures.1 in
    rw (p.1, p.2) (movement_refused a.limit first second (plan_refuses a.limit first second plan))

pub returns : goal.returns
returns c =
    let a = c.args in
    let first = run_on a.recipe1.now a.still1.now a.work.now a.rows.now a.sums.now a.out1.now in
    let second = run_on a.recipe2.now a.still2.now a.work.now a.rows.now a.sums.now a.out2.now in
    let plan = plan_of_runs a.limit first second c.lent_to-lent1.ensures c.lent_to-lent2.ensures c.in_ok-pair.ensures in
    movement_counted a.limit first second (shown a.limit first second plan) (λ i. omega (arith, (c.type_inv.recipe1 i).fits)) (λ i. omega (arith, (c.type_inv.recipe2 i).fits)) c.run.ensures
