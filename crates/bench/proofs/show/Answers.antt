-- `bench::show` keeps to what the kernel's reader requires, is safe and ends. Assumes nothing.
use native.Mathlib.Omega.{arith}
use mathlib.Core.Path.{sym}
use mathlib.Core.Bool.{false}
use Rattle.recipe_kernels.proofs.GainLaws.{taps_part, axis_limits}
use Rattle.bench.proofs.show.Goals as goal

pub kernel_on-requires : goal.kernel_on-requires
kernel_on-requires g c =
    (omega arith, taps_part false c.args.part.now (sym c.in-Ok.ensures))

pub axis_of-axis-requires : goal.axis_of-axis-requires
axis_of-axis-requires g c =
    axis_limits false c.args.part.now (λ i. (c.type_inv.part i).fits) (sym c.in-Ok.ensures) 0 (omega arith) c.kernel_on.ensures.0 c.kernel_on.ensures.1
