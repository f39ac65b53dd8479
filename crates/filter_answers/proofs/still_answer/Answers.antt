-- `filter_answers::still_answer` meets its contract, by what the still is read as. Assumes nothing.
use native.Mathlib.Omega.{arith}
use mathlib.Core.Path.{sym}
use Rattle.std.proofs.lemmas.Result.{err_from_is_err_and}
use Rattle.filter_answers.proofs.FileAccepted.{shown, still_limited, still_done}
use Rattle.filter_answers.proofs.still_answer.Goals as goal

pub returns-in_err-picture : goal.returns-in_err-picture
returns-in_err-picture c =
    let p = err_from_is_err_and c.from_residual.result c.from_residual.ensures.1 in
    rw (p.1, p.2, ← c.in_err-picture.ensures)

pub overflow_mul-picture : goal.overflow_mul-picture
overflow_mul-picture c =
    let s = shown c.args.still.now (sym c.in_ok-picture.ensures) in
    record { fits = omega (arith, s.plane_small) }

pub returns-then-limits-picture : goal.returns-then-limits-picture
returns-then-limits-picture c =
    rw (← c.in_ok-picture.ensures, still_limited c.args.limits c.args.tolerance c.in_ok-picture.picture c.if-limits-picture.true)

pub file_size-requires : goal.file_size-requires
file_size-requires c =
    let s = shown c.args.still.now (sym c.in_ok-picture.ensures) in
    (s.width.1, s.height.1, s.channels.1)

pub returns : goal.returns
returns c =
    rw (← c.in_ok-picture.ensures, still_done c.args.limits c.args.tolerance c.in_ok-picture.picture c.if-limits-picture.false, c.file_size.ensures)
