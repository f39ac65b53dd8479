-- `row_sums::in_64ths` meets its contract: a shift rounds down. Assumes nothing.
use Rattle.integers.proofs.Registers.{of-bits, shr_bits}
use Rattle.row_sums.proofs.in_64ths.Goals as goal

pub returns : goal.returns
returns c =
    (shr_bits (of-bits c.ranges.sum) 1024).is
