-- `axis_fields::sizes` meets its contract: field by field. Assumes nothing.
use Rattle.std.proofs.lemmas.Result.{err_from_is_err_and}
use Rattle.axis_fields.proofs.SizeLaws.{sizes_of}
use Rattle.axis_fields.proofs.sizes.Goals as goal

pub returns-in_err-count_at : goal.returns-in_err-count_at
returns-in_err-count_at c =
    let p = err_from_is_err_and c.from_residual.result c.from_residual.ensures.1 in
    rw (p.1, p.2, sizes_of, ← c.in_err-count_at.ensures)

pub returns-in_err-count_at-2 : goal.returns-in_err-count_at-2
returns-in_err-count_at-2 c =
    let p = err_from_is_err_and c.from_residual-in_err-count_at-2.result c.from_residual-in_err-count_at-2.ensures.1 in
    rw (p.1, p.2, sizes_of, ← c.in_ok-count_at.ensures, ← c.in_err-count_at-2.ensures)

pub returns-then-real : goal.returns-then-real
returns-then-real c =
    rw (sizes_of, ← c.in_ok-count_at.ensures, ← c.in_ok-count_at-2.ensures, c.if-real.true)

pub returns-in_err-divisor_at : goal.returns-in_err-divisor_at
returns-in_err-divisor_at c =
    let p = err_from_is_err_and c.from_residual-in_err-divisor_at.result c.from_residual-in_err-divisor_at.ensures.1 in
    rw (p.1, p.2, sizes_of, ← c.in_ok-count_at.ensures, ← c.in_ok-count_at-2.ensures, c.if-real.false, ← c.in_err-divisor_at.ensures)

pub returns : goal.returns
returns c =
    rw (sizes_of, ← c.in_ok-count_at.ensures, ← c.in_ok-count_at-2.ensures, c.if-real.false, ← c.in_ok-divisor_at.ensures) c.divisor_at-2.ensures
