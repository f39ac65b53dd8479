-- `tolerance::Tolerance::after_weighted` meets its contract. Assumes nothing.
use native.Mathlib.Nat.{mul-le-mul}
use native.Mathlib.Omega.{arith}
use Rattle.model.specs.Tolerance.{weighted_growth}
use Rattle.tolerance.proofs.Tolerance.after_weighted.Goals as goal

pub overflow_mul-g1 : goal.overflow_mul-g1
overflow_mul-g1 c =
    omega (arith, mul-le-mul c.requires.1 c.requires.2)

pub quotient_up-before-requires : goal.quotient_up-before-requires
quotient_up-before-requires c =
    (mul-le-mul c.requires.1 c.requires.2, omega arith, omega arith, omega arith)

pub returns : goal.returns
unfolding weighted_growth
returns c =
    (rw (c.cut-units.ensures, c.quotient_up-before.ensures.0, c.quotient_up-across.ensures.0, c.quotient_up-down.ensures.0), omega (arith, c.cut-units.ensures))
