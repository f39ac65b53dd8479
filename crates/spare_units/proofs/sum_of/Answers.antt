-- `spare_units::sum_of` meets its contract: the sum so far. Assumes nothing.
use Prim.Native.Nat.{ℕ}
use native.Mathlib.Nat.{le_antisymm}
use native.Mathlib.Omega.{arith}
use mathlib.Core.Path.{sym}
use lib.ListN.{get_or}
use Rattle.lists.proofs.Sums.{sum_more, sum-none, sum_bound}
use Rattle.spare_units.proofs.sum_of.Goals as goal

pub loop-i-init : goal.loop-i-init
loop-i-init c =
    sym (sum-none _)

pub overflow_add-sum : goal.overflow_add-sum
overflow_add-sum c =
    let r = c.args.rest.now in
    omega (
      arith,
      sum_bound (λ (k : ℕ). get_or r k 0) c.loop-i.i 34359738368 (λ k l. omega (arith, c.requires.3 k (omega arith))),
      c.requires.3 c.loop-i.i c.loop-i-test.true,
    )

pub loop-i-preserved : goal.loop-i-preserved
loop-i-preserved c =
    omega (arith, sum_more (λ (k : ℕ). get_or c.args.rest.now k 0) c.loop-i.i, c.loop-i.invariant)

pub returns : goal.returns
returns c =
    rw (le_antisymm c.loop-i.auto.i-end c.loop-i-test.false) at c.loop-i.invariant
