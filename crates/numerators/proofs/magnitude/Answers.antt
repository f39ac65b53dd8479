-- `numerators::magnitude` meets its contract: the sum so far. Assumes nothing.
use Prim.Native.Nat.{ℕ}
use native.Mathlib.Omega.{arith}
use native.Mathlib.Nat.{le_antisymm}
use mathlib.Core.Path.{sym}
use lib.ListN.{get_or}
use lib.IntN.{nat_abs}
use Rattle.numerators.specs.Numerator.{numerator_of}
use Rattle.lists.proofs.Sums.{sum_more, sum-none, sum_bound}
use Rattle.integers.proofs.Parts.{abs_diff}
use Rattle.numerators.proofs.magnitude.Goals as goal

pub loop-i-init : goal.loop-i-init
loop-i-init c =
    sym (sum-none _)

pub overflow_add-sum : goal.overflow_add-sum
unfolding numerator_of
overflow_add-sum c =
    let a = c.args in
    let v = a.values.now in
    omega (
      arith,
      sum_bound (λ (k : ℕ). nat_abs (numerator_of (get_or v k 0))) c.loop-i.i 549755813888 (λ k l. omega (arith, abs_diff (get_or v k 0) 274877906944, c.requires.2 k (omega arith))),
      c.magnitude_of-sum.ensures,
      abs_diff (get_or v c.loop-i.i 0) 274877906944,
      c.requires.2 c.loop-i.i c.loop-i-test.true,
    )

pub loop-i-preserved : goal.loop-i-preserved
loop-i-preserved c =
    omega (arith, c.magnitude_of-sum.ensures, sum_more (λ (k : ℕ). nat_abs (numerator_of (get_or c.args.values.now k 0))) c.loop-i.i, c.loop-i.invariant)

pub returns : goal.returns
returns c =
    rw (le_antisymm c.loop-i.auto.i-end c.loop-i-test.false) at c.loop-i.invariant
