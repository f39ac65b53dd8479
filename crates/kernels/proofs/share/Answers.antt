-- `kernels::share` meets its contract. Assumes nothing.
use Prim.Native.Nat.{◌+◌, ◌/◌}
use native.Mathlib.Omega.{arith}
use mathlib.Core.Path.{◌∙◌}
use lib.IntN.{pos, ◌*ℤ◌}
use mir.Syntax.{w32}
use Rattle.integers.proofs.Machine.{diff_fits, diff_is}
use Rattle.numerators.specs.Numerator.{numerator_of}
use Rattle.numerators.proofs.Biased.{raised_le, quotient_le, floor_biased, share-is}
use Rattle.kernels.proofs.share.Goals as goal

pub overflow_add-high : goal.overflow_add-high
overflow_add-high c =
    let a = c.args in
    omega (arith, quotient_le c.raised.result a.divisor c.requires.0 (raised_le c.raised.result a.value a.divisor c.requires.2 c.raised.ensures), c.requires.3)

pub overflow_cast-result : goal.overflow_cast-result
overflow_cast-result c =
    let a = c.args in
    record { sfits = omega (arith, quotient_le c.raised.result a.divisor c.requires.0 (raised_le c.raised.result a.value a.divisor c.requires.2 c.raised.ensures), c.requires.3) }

pub overflow_sub-result : goal.overflow_sub-result
overflow_sub-result c =
    let a = c.args in
    diff_fits w32 (c.raised.result / a.divisor + a.unit) 262144 (omega (arith, quotient_le c.raised.result a.divisor c.requires.0 (raised_le c.raised.result a.value a.divisor c.requires.2 c.raised.ensures), c.requires.3))

pub returns : goal.returns
returns c =
    let a = c.args in
    let r = c.raised.result in
    diff_is w32 (r / a.divisor + a.unit) 262144 (omega (arith, quotient_le r a.divisor c.requires.0 (raised_le r a.value a.divisor c.requires.2 c.raised.ensures), c.requires.3))
    ∙ share-is _ (r / a.divisor) a.unit (floor_biased (pos 65536 *ℤ numerator_of a.value) a.divisor 262144 r c.requires.0 c.raised.ensures)
