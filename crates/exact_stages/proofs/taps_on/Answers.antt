-- `exact_stages::taps_on` meets its contract: a kernel of ratios has a divisor of two bytes. Assumes nothing.
use Prim.Native.Nat.{ℕ, ◌+◌, ◌*◌, ◌≤◌, ◌<◌}
use native.Mathlib.Omega.{arith}
use mathlib.Core.Path.{◌≡◌, ap, ◌∙◌}
use mathlib.Core.Bool.{false}
use mathlib.Core.List.{List}
use Rattle.model.specs.Kernel.{Kernel, kernel}
use Rattle.kernels.specs.Kernel.{kernel_of}
use Rattle.recipe_bytes.specs.Bytes.{at, word}
use Rattle.axis_fields.specs.AxisFields.{divisor_at}
use Rattle.taps.specs.TapBytes.{kernel_at}
use Rattle.recipe_kernels.specs.Kernels.{kernel_on}
use Rattle.recipe_kernels.proofs.GainLaws.{taps_part, axis_limits}
use Rattle.exact_stages.proofs.taps_on.Goals as goal

-- the divisor is a number of two bytes
divisor-low : (b : List ℕ) (axis D : ℕ) (offsets values : List ℕ) (n : ℕ) → ((i : ℕ) → at b i < 256) → kernel_of D offsets values n ≡ kernel_on false axis b → D ≤ 65535
unfolding kernel_of kernel kernel_on kernel_at divisor_at word
divisor-low b axis D offsets values n bytes e = omega (arith, ap (λ (K : Kernel). K.divisor) e, bytes (2 + 2 * axis), bytes (2 + 2 * axis + 1))

pub kernel_on-requires : goal.kernel_on-requires
kernel_on-requires c =
    (c.requires.0, taps_part false c.args.part.now c.requires.1)

pub taps_of-requires : goal.taps_of-requires
taps_of-requires c =
    let a = c.args in
    let p = c.requires in
    let k = c.kernel_on.result in
    let bytes : (i : ℕ) → at a.part.now i < 256 = λ i. (c.type_inv.part i).fits in
    (axis_limits false a.part.now bytes p.1 a.axis p.0 c.kernel_on.ensures.0 c.kernel_on.ensures.1, divisor-low a.part.now a.axis k.divisor k.offsets k.values k.len bytes c.kernel_on.ensures.0.is)

pub returns : goal.returns
returns c =
    c.taps_of.ensures ∙ c.kernel_on.ensures.0.is
