-- `gain_tests::gain` meets its contract. Assumes nothing.
use native.Mathlib.Omega.{arith}
use Rattle.kernels.proofs.Units.{magnitude-is}
use Rattle.kernels.specs.Kernel.{kernel_of}
use Rattle.model.specs.Kernel.{kernel}
use Rattle.gain_tests.proofs.GainTest.{gain_high, gain-low}
use Rattle.gain_tests.proofs.gain.Goals as goal

pub returns-then-k-magnitude : goal.returns-then-k-magnitude
unfolding kernel_of kernel
returns-then-k-magnitude c =
    let k = c.args.k in
    gain_high (kernel_of k.divisor k.offsets k.values k.len) (omega (arith, c.if-k-magnitude.true, c.magnitude.ensures, magnitude-is k.offsets k.values k.len))

pub returns : goal.returns
unfolding kernel_of kernel
returns c =
    let k = c.args.k in
    gain-low (kernel_of k.divisor k.offsets k.values k.len) (omega (arith, c.if-k-magnitude.false, c.magnitude.ensures, magnitude-is k.offsets k.values k.len))
