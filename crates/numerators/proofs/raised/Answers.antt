-- `numerators::raised` meets its contract. Assumes nothing.
use Prim.Native.Nat.{◌*◌}
use native.Mathlib.Omega.{arith}
use lib.IntN.{pos, ◌-ℤ◌, ◌*ℤ◌}
use Rattle.integers.proofs.Parts.{parts_ext, add_parts, sub_parts, mul-parts, abs_diff}
use Rattle.numerators.specs.Numerator.{numerator_of}
use Rattle.numerators.proofs.raised.Goals as goal

pub overflow_mul-result-2 : goal.overflow_mul-result-2
unfolding numerator_of
overflow_mul-result-2 c =
    omega (arith, c.requires.1, abs_diff c.args.value 274877906944)

pub overflow_add-result : goal.overflow_add-result
unfolding numerator_of
overflow_add-result c =
    omega (arith, c.requires.1, abs_diff c.args.value 274877906944)

pub overflow_sub-result : goal.overflow_sub-result
unfolding numerator_of
overflow_sub-result c =
    omega (arith, c.requires.1, abs_diff c.args.value 274877906944)

pub returns : goal.returns
unfolding numerator_of
returns c =
    let a = pos c.args.value -ℤ pos 274877906944 in
    parts_ext _ _
    (omega (
      arith,
      c.requires.1,
      abs_diff c.args.value 274877906944,
      sub_parts (pos c.args.value) (pos 274877906944),
      mul-parts (pos 65536) a,
      add_parts (pos 65536 *ℤ a) (pos (262144 * c.args.divisor)),
    ))
