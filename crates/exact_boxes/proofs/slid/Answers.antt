-- `exact_boxes::slid` meets its contract: the sizes leave room. Assumes nothing.
use Prim.Native.Nat.{◌+◌, ◌≤◌, ◌^◌}
use native.Mathlib.Omega.{arith}
use lib.IntN.{nat_abs, ◌+ℤ◌, ◌-ℤ◌}
use mir.Syntax.{w32, w64}
use mir.Val.{of_z, SFits}
use Rattle.integers.proofs.Parts.{abs_parts, abs_add, sub_parts}
use Rattle.integers.proofs.Machine.{abs_fits}
use Rattle.integers.proofs.Registers.{Bits, of-bits, widen_bits, sub_bits, add-bits}
use Rattle.exact_boxes.proofs.SumLaws.{word_size}
use Rattle.exact_boxes.proofs.slid.Goals as goal

pub returns : goal.returns
returns c =
    let x = c.args.sum in
    let y = c.args.leaves in
    let z = c.args.enters in
    let leaves : Bits w64 (of_z w64 c.from.result) y = rw c.from.ensures (widen_bits (of-bits {w = w32} c.ranges.leaves) w64 tt) in
    let enters : Bits w64 (of_z w64 c.from-2.result) z = rw c.from-2.ensures (widen_bits (of-bits {w = w32} c.ranges.enters) w64 tt) in
    let small : nat_abs (x -ℤ y) ≤ 2 ^ 40 + 2 ^ 31 = omega (arith, c.requires, sub_parts x y, abs_parts x, abs_parts y, abs_parts (x -ℤ y), word_size y c.ranges.leaves) in
    let less : SFits w64 (x -ℤ y) = abs_fits w64 _ (omega (arith, small)) in
    let whole : SFits w64 (x -ℤ y +ℤ z) = abs_fits w64 _ (omega (arith, small, abs_add (x -ℤ y) z, word_size z c.ranges.enters)) in
    (add-bits (sub_bits (of-bits c.ranges.sum) leaves less) enters whole).is
