-- `whole_taps::numerator` meets its contract: both biases together are 2^38. Assumes nothing.
use Prim.Native.Nat.{◌-◌, ◌≤◌}
use native.Mathlib.Omega.{arith}
use mathlib.Core.Path.{◌∙◌}
use lib.IntN.{pos}
use mir.Syntax.{w32}
use Rattle.integers.proofs.Machine.{diff_fits, diff_is}
use Rattle.integers.proofs.Parts.{parts_ext, sub_parts, abs_diff}
use Rattle.numerators.specs.Numerator.{numerator_of}
use Rattle.whole_taps.proofs.numerator.Goals as goal

pub overflow_sub-result : goal.overflow_sub-result
unfolding numerator_of
overflow_sub-result c =
    let within : (274877644804 ≤ c.args.value) × (c.args.value ≤ 274878169084) = omega (arith, c.requires, abs_diff c.args.value 274877906944) in
    omega (arith, within)

pub overflow_cast-result : goal.overflow_cast-result
unfolding numerator_of
overflow_cast-result c =
    let within : (274877644804 ≤ c.args.value) × (c.args.value ≤ 274878169084) = omega (arith, c.requires, abs_diff c.args.value 274877906944) in
    record { sfits = omega (arith, within) }

pub overflow_sub-result-2 : goal.overflow_sub-result-2
unfolding numerator_of
overflow_sub-result-2 c =
    let within : (274877644804 ≤ c.args.value) × (c.args.value ≤ 274878169084) = omega (arith, c.requires, abs_diff c.args.value 274877906944) in
    diff_fits w32 (c.args.value - 274877644800) 262144 (omega (arith, within))

pub returns : goal.returns
unfolding numerator_of
returns c =
    let within : (274877644804 ≤ c.args.value) × (c.args.value ≤ 274878169084) = omega (arith, c.requires, abs_diff c.args.value 274877906944) in
    let v = c.args.value in
    diff_is w32 (v - 274877644800) 262144 (omega (arith, within))
    ∙ parts_ext _ _ (omega (arith, within, sub_parts (pos (v - 274877644800)) (pos 262144), sub_parts (pos v) (pos 274877906944)))
