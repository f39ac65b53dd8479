-- `plus` of a sum on 64 bits meets its contract: the sizes leave room. Assumes nothing.
use Rattle.std.proofs.Common.{◌+◌, ◌*◌, ◌^◌, ◌<◌, nat_abs, w32, w64, of_z, arith}
use Rattle.std.proofs.Math.Nat.{mul-le-mul}
use Rattle.integers.proofs.Registers.{Bits, of-bits, widen_bits}
use Rattle.integers.proofs.MulAdd.{sum_is}
use Rattle.row_sums.proofs.I64TallyI32.plus.Goals as goal

pub returns : goal.returns
returns c =
    let a = c.args in
    let weight : Bits w64 (of_z w64 c.from.result) a.weight = rw c.from.ensures (widen_bits (of-bits {w = w32} c.ranges.weight) w64 tt) in
    let before : Bits w64 (of_z w64 c.from-2.result) a.before = rw c.from-2.ensures (widen_bits (of-bits {w = w32} c.ranges.before) w64 tt) in
    let room : nat_abs a.self + nat_abs a.weight * nat_abs a.before < 2 ^ 63 = omega (arith, c.requires.1.0, mul-le-mul c.requires.0 c.requires.1.1) in
    sum_is (of-bits c.ranges.self) weight before room
