-- `room::needs` meets its contract: each length fits. Assumes nothing.
use Prim.Native.Nat.{◌+◌}
use native.Mathlib.Nat.{mul-le-mul}
use native.Mathlib.Omega.{arith}
use mathlib.Core.Path.{refl}
use Rattle.room.proofs.needs.Goals as goal

pub overflow_mul-result : goal.overflow_mul-result
overflow_mul-result c =
    record { fits = omega (arith, mul-le-mul {n₂ = 8192} {m₂ = 8192} c.requires.0 c.requires.1) }

pub overflow_mul-result-2 : goal.overflow_mul-result-2
overflow_mul-result-2 c =
    record { fits = omega (arith, mul-le-mul {n₂ = 8192} {m₂ = 8192} c.requires.0 c.requires.1) }

pub overflow_mul-result-3 : goal.overflow_mul-result-3
overflow_mul-result-3 c =
    record { fits = omega (arith, mul-le-mul {m₁ = c.args.h + 30} {n₂ = 8192} {m₂ = 8222} c.requires.0 (omega (arith, c.requires.1))) }

pub returns : goal.returns
returns c =
    rw c.sum_need.ensures refl
