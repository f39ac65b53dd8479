-- `recipe_kernels::length` meets its contract. Assumes nothing.
use Prim.Native.Nat.{◌+◌, ◌≤◌}
use native.Mathlib.Nat.{mul-le-mul}
use native.Mathlib.Omega.{arith}
use mathlib.Core.Path.{refl}
use Rattle.recipe_kernels.specs.Kernels.{weighted_length}
use Rattle.axis_fields.proofs.SizeLaws.{length_small}
use Rattle.recipe_kernels.proofs.AxisLaws.{taps_sizes, length_passed, length_most}
use Rattle.recipe_kernels.proofs.length.Goals as goal

pub bounds-part-0 : goal.bounds-part-0
bounds-part-0 c =
    omega (arith, (taps_sizes c.args.real c.args.part.now c.requires).counts-there)

pub bounds-part-1 : goal.bounds-part-1
bounds-part-1 c =
    omega (arith, (taps_sizes c.args.real c.args.part.now c.requires).counts-there)

pub overflow_mul-result : goal.overflow_mul-result
overflow_mul-result c =
    let a : c.weight_length.result ≤ 4 = omega (arith, c.weight_length.ensures, length_small c.args.real) in
    let b : c.from.result + c.from-2.result ≤ 512 = omega arith in
    omega (arith, mul-le-mul a b)

pub overflow_add-result-2 : goal.overflow_add-result-2
overflow_add-result-2 c =
    let a : c.weight_length.result ≤ 4 = omega (arith, c.weight_length.ensures, length_small c.args.real) in
    let b : c.from.result + c.from-2.result ≤ 512 = omega arith in
    omega (arith, mul-le-mul a b, c.sizes_length.ensures, b)

pub returns : goal.returns
unfolding weighted_length
returns c =
    let a = c.args in
    let p = length_passed a.real a.part.now (λ i. (c.type_inv.part i).fits) c.requires in
    let q = length_most a.real a.part.now (λ i. (c.type_inv.part i).fits) c.requires in
    rw (c.weight_length.ensures, c.sizes_length.ensures.0, c.from-2.ensures, c.from.ensures) (refl, p, q)
