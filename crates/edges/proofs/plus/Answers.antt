-- `edges::plus` meets its contract: the sizes leave room. Assumes nothing.
use Prim.Native.Nat.{ℕ, ◌+◌, ◌*◌, ◌≤◌, ◌<◌}
use native.Mathlib.Nat.{mul-le-mul}
use native.Mathlib.Omega.{arith}
use lib.IntN.{ℤ, pos, nat_abs, ◌+ℤ◌, ◌*ℤ◌}
use mir.Syntax.{w8, w16}
use mir.Val.{Fits}
use Rattle.integers.proofs.MulAdd.{product_fits, sum_fits, sum_is}
use Rattle.integers.proofs.Registers.{Bits, of-bits, nat_bits}
use Rattle.integers.proofs.Parts.{abs_add, abs_mul}
use Rattle.edges.proofs.plus.Goals as goal

sample_bits : (x : ℕ) → Fits w8 x → Bits w16 x (pos x)
sample_bits x f = nat_bits w16 x (omega (arith, f))

product : (w : ℤ) (x : ℕ) → Fits w8 x → nat_abs w ≤ 1 → nat_abs w * x ≤ 255
product w x f h = let byte : x ≤ 255 = omega (arith, f) in omega (arith, mul-le-mul h byte)

room : (s w : ℤ) (x : ℕ) → Fits w8 x → nat_abs s ≤ 2040 → nat_abs w ≤ 1 → nat_abs s + nat_abs w * x < 32768
room s w x f l h = omega (arith, l, product w x f h)

near : (s w : ℤ) (x : ℕ) → Fits w8 x → nat_abs w ≤ 1 → nat_abs (s +ℤ w *ℤ pos x) ≤ nat_abs s + 255
near s w x f h = omega (arith, product w x f h, abs_add s (w *ℤ pos x), abs_mul w (pos x))

pub overflow_mul-result : goal.overflow_mul-result
overflow_mul-result c =
    rw c.from.ensures (product_fits (of-bits c.ranges.sum) (of-bits c.ranges.weight) (sample_bits _ c.ranges.sample) (room c.args.sum c.args.weight _ c.ranges.sample c.requires.0 c.requires.1))

pub overflow_add-result : goal.overflow_add-result
overflow_add-result c =
    rw c.from.ensures (sum_fits (of-bits c.ranges.sum) (of-bits c.ranges.weight) (sample_bits _ c.ranges.sample) (room c.args.sum c.args.weight _ c.ranges.sample c.requires.0 c.requires.1))

pub returns : goal.returns
returns c =
    let e = sum_is (of-bits c.ranges.sum) (of-bits c.ranges.weight) (sample_bits _ c.ranges.sample) (room c.args.sum c.args.weight _ c.ranges.sample c.requires.0 c.requires.1) in
    rw c.from.ensures (e, rw e (near c.args.sum c.args.weight _ c.ranges.sample c.requires.1))
