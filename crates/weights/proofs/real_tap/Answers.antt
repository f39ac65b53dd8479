-- `weights::real_tap` meets its contract: an accepted pattern is no NaN's. Assumes nothing.
use Prim.Native.Nat.{◌%◌}
use lib.Ieee.{binary32}
use lib.Ieee.Bits.{nan_bits_above}
use borrow.Author.Tests.{le-ltb}
use Rattle.weights.proofs.Laws.{accepted_no_nan}
use Rattle.weights.proofs.real_tap.Goals as goal

pub float_from_bits-weight : goal.float_from_bits-weight
float_from_bits-weight c =
    rw (nan_bits_above binary32 c.args.bits, le-ltb 2139095040 (c.args.bits % 2147483648) (accepted_no_nan c.args.bits c.requires)) tt
