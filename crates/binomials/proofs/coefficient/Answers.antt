-- `binomials::coefficient` meets its contract: the table is computed to be the even rows of Pascal's triangle. Assumes nothing.
use native.Mathlib.Nat.{mul-le-mul}
use native.Mathlib.Omega.{arith}
use Rattle.model.specs.Binomial.{pair_sums, pascal_row}
use Rattle.binomials.proofs.Rows.{even_rows, rows_at, choose-le}
use Rattle.binomials.proofs.coefficient.Goals as goal

pub overflow_mul-result : goal.overflow_mul-result
overflow_mul-result c =
    omega (arith, mul-le-mul c.requires.0 c.requires.0)

pub overflow_add-result : goal.overflow_add-result
overflow_add-result c =
    omega (arith, mul-le-mul c.requires.0 c.requires.0, c.requires.1)

pub offset_bounds-r : goal.offset_bounds-r
offset_bounds-r c =
    omega (arith, mul-le-mul c.requires.0 c.requires.0, c.requires.1)

pub bounds-r : goal.bounds-r
bounds-r c =
    omega (arith, mul-le-mul c.requires.0 c.requires.0, c.requires.1)

pub returns : goal.returns
unfolding even_rows pascal_row pair_sums
returns c =
    let e = rows_at 16 c.args.r c.args.k (omega (arith, c.requires.0)) c.requires.1 in
    (e, rw e (choose-le c.args.r c.args.k c.requires.0))
