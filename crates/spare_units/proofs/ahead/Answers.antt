-- `spare_units::ahead` meets its contract: the count so far. Assumes nothing.
use Prim.Native.Nat.{ℕ}
use native.Mathlib.Nat.{le_antisymm}
use native.Mathlib.Omega.{arith}
use mathlib.Core.Path.{sym, ap, ◌∙◌}
use mathlib.Core.Bool.{Bool, cond}
use lib.ListN.{get_or}
use Rattle.unit_order.specs.Order.{before}
use Rattle.lists.proofs.Sums.{count-more, count_none}
use Rattle.spare_units.proofs.Bit.{bit-is, bit_le}
use Rattle.spare_units.proofs.ahead.Goals as goal

pub loop-j-init : goal.loop-j-init
loop-j-init c =
    (omega arith, sym (count_none _ _))

pub comes_before-requires : goal.comes_before-requires
comes_before-requires c =
    omega arith

pub overflow_add-found : goal.overflow_add-found
overflow_add-found c =
    omega (arith, bit_le, c.loop-j.invariant.0)

pub loop-j-preserved : goal.loop-j-preserved
loop-j-preserved c =
    let a = c.args in
    let p : ℕ → Bool = λ k. before (get_or a.rest.now k 0) (get_or a.offsets.now k 0) (get_or a.rest.now a.i 0) (get_or a.offsets.now a.i 0) in
    let one = c.from-found.ensures ∙ bit-is _ ∙ ap (λ (b : Bool). cond {A = ℕ} b 1 0) c.comes_before.ensures in
    (omega (arith, c.from-found.ensures, bit_le), omega (arith, count-more p (λ (k : ℕ). k) c.loop-j.j, one, c.loop-j.invariant.1))

pub returns : goal.returns
returns c =
    rw (le_antisymm c.loop-j.auto.j-end c.loop-j-test.false) at c.loop-j.invariant.1
