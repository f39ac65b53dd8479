-- `weights::is_real_weight` meets its contract. A NaN's pattern is not accepted, and of any other the tests in f32 say whether it is. Assumes nothing.
use mathlib.Core.Path.{◌∙◌}
use Prim.Native.Nat.{◌%◌}
use native.Mathlib.Omega.{arith}
use lib.Ieee.{binary32}
use lib.Ieee.Bits.{nan_bits_above}
use borrow.Author.Tests.{le-ltb, lt-leb}
use Rattle.weights.proofs.Laws.{nan-refused, in_range_bits}
use Rattle.weights.proofs.is_real_weight.Goals as goal

pub returns-then-bits-le2139095040 : goal.returns-then-bits-le2139095040
returns-then-bits-le2139095040 c =
    c.in_range.ensures ∙ in_range_bits c.args.bits c.if-bits-le2139095040.true

pub returns-else-bits-le2139095040 : goal.returns-else-bits-le2139095040
returns-else-bits-le2139095040 c =
    rw (lt-leb (c.args.bits % 2147483648) 2139095040 c.if-bits-le2139095040.false, nan-refused c.args.bits c.if-bits-le2139095040.false)

pub float_from_bits-bits : goal.float_from_bits-bits
float_from_bits-bits c =
    rw (nan_bits_above binary32 c.args.bits, le-ltb 2139095040 (c.args.bits % 2147483648) (omega arith)) tt
