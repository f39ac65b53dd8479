-- `exact_boxes::first_sum` meets its contract: column by column. Assumes nothing.
use Prim.Native.Nat.{◌+◌, ◌*◌, ◌^◌, ◌≤◌, ◌<◌}
use native.Mathlib.Omega.{arith}
use mathlib.Core.Path.{sym}
use lib.ListN.{get_or, take, length-take}
use lib.Seq.{get_or-take}
use lib.IntN.{pos, nat_abs, ◌+ℤ◌}
use lib.Signed.{mag}
use mir.Syntax.{w32, w64}
use mir.Val.{of_z, SFits}
use Rattle.integers.proofs.Parts.{abs_add}
use Rattle.integers.proofs.Machine.{abs_fits}
use Rattle.integers.proofs.Registers.{Bits, of-bits, widen_bits, add-bits}
use borrow.Author.Rules.{rules}
use Rattle.exact_boxes.specs.BoxSums.{run_sum}
use Rattle.exact_boxes.proofs.SumLaws.{word_size}
use Rattle.exact_boxes.proofs.RunLaws.{run_none, run_more}
use Rattle.exact_boxes.proofs.first_sum.Goals as goal

pub loop-x-init : goal.loop-x-init
loop-x-init c =
    (sym (run_none c.args.columns.now 0), rw (run_none c.args.columns.now 0) (omega arith))

pub loop-x-preserved : goal.loop-x-preserved
loop-x-preserved c =
    let columns = c.args.columns.now in
    let L = c.loop-x in
    let i = L.x-index in
    let x = get_or columns i (pos 0) in
    let z = run_sum columns i 0 in
    let inside : i < c.args.n = omega (arith, c.loop-x-test.true, length-take c.args.n columns) in
    let there = get_or-take c.args.n columns i (pos 0) inside in
    let size : mag (get_or (take c.args.n columns) i (pos 0)) < 2 ^ 31 = search rules in
    let word : SFits w32 x = record { sfits = rw there at size } in
    let entry : Bits w64 (of_z w64 c.from-sum.result) x = rw (c.from-sum.ensures, there) (widen_bits (of-bits {w = w32} word) w64 tt) in
    let more : nat_abs (z +ℤ x) ≤ 2 ^ 31 + i * 2 ^ 31 = omega (arith, L.invariant.1, abs_add z x, word_size x word) in
    let so-far : Bits w64 L.sum-bits z = record { is = L.invariant.0; fits = abs_fits w64 _ (omega (arith, inside, c.requires.0, L.invariant.1)) } in
    rw (run_more columns i) ((add-bits so-far entry (abs_fits w64 _ (omega (arith, more, inside, c.requires.0)))).is, omega (arith, more))
