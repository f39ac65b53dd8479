-- `mean_rows::reciprocal` meets its contract: a half of 2^32 at most, so it fits 32 bits. Assumes nothing.
use Rattle.std.proofs.Common.{◌+◌, ◌-◌, ◌*◌, ◌^◌, div-lt_iff_lt-mul, arith}
use Rattle.mean_rows.proofs.reciprocal.Goals as goal

pub overflow_cast-result : goal.overflow_cast-result
overflow_cast-result c =
    let area = c.args.area in
    omega (arith, (div-lt_iff_lt-mul {k = 2 * area} {x = 2 ^ 32 + (2 * area - 1)} {y = 2 ^ 32} (omega (arith, c.requires))).1 (omega (arith, c.requires)))
