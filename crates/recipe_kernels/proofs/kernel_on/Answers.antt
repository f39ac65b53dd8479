-- `recipe_kernels::kernel_on` meets its contract: the places in the bytes are those of its axis. Assumes nothing.
use Prim.Native.Nat.{◌≤◌, ◌*◌}
use native.Mathlib.Nat.{mul-le-mul}
use native.Mathlib.Omega.{arith}
use Rattle.axis_fields.proofs.SizeLaws.{length_small}
use Rattle.axis_fields.proofs.AxisPassed.{divisors_there}
use Rattle.recipe_kernels.specs.Kernels.{kernel_on}
use Rattle.recipe_kernels.proofs.AxisLaws.{taps_sizes, axis_tested, axis_kept}
use Rattle.recipe_kernels.proofs.kernel_on.Goals as goal

pub taps_before-before-requires : goal.taps_before-before-requires
taps_before-before-requires c =
    omega (arith, (taps_sizes c.args.real c.args.part.now c.requires.1).counts-there)

pub bounds-part-0 : goal.bounds-part-0
bounds-part-0 c =
    omega (arith, (taps_sizes c.args.real c.args.part.now c.requires.1).counts-there)

pub bounds-part-1 : goal.bounds-part-1
bounds-part-1 c =
    omega (arith, (taps_sizes c.args.real c.args.part.now c.requires.1).counts-there)

pub overflow_mul-w : goal.overflow_mul-w
overflow_mul-w c =
    let few : c.weight_length.result * c.taps_before-before.result ≤ 1020 = mul-le-mul {n₂ = 4} {m₂ = 255} (omega (arith, c.weight_length.ensures, length_small c.args.real)) c.taps_before-before.ensures.1 in
    omega (arith, few)

pub overflow_add-w-2 : goal.overflow_add-w-2
overflow_add-w-2 c =
    let few : c.weight_length.result * c.taps_before-before.result ≤ 1020 = mul-le-mul {n₂ = 4} {m₂ = 255} (omega (arith, c.weight_length.ensures, length_small c.args.real)) c.taps_before-before.ensures.1 in
    omega (arith, few, c.sizes_length-o.ensures)

pub divisor-d-requires : goal.divisor-d-requires
divisor-d-requires c =
    let a = c.args in
    λ t. omega (arith, c.requires.0, divisors_there a.real a.part.now (taps_sizes a.real a.part.now c.requires.1) t)

pub bounds-part-axis : goal.bounds-part-axis
bounds-part-axis c =
    omega (arith, c.requires.0, (taps_sizes c.args.real c.args.part.now c.requires.1).counts-there)

pub kernel_from-requires : goal.kernel_from-requires
kernel_from-requires c =
    let a = c.args in
    rw (c.from-n.ensures, c.weight_length.ensures, c.from-2.ensures, c.from.ensures, c.sizes_length-o.ensures.0, c.taps_before-before.ensures.0)
    (axis_tested a.real a.part.now (λ i. (c.type_inv.part i).fits) c.requires.1 a.axis c.requires.0)

pub returns : goal.returns
unfolding kernel_on
returns c =
    let a = c.args in
    let k = c.kernel_from.ensures in
    let e = rw (c.from-n.ensures, c.weight_length.ensures, c.from-2.ensures, c.from.ensures, c.sizes_length-o.ensures.0, c.taps_before-before.ensures.0, c.divisor-d.ensures) at k in
    rw (e.0, e.1) (e.2, axis_kept a.real a.part.now (λ i. (c.type_inv.part i).fits) c.requires.1 a.axis c.requires.0 e.2)
