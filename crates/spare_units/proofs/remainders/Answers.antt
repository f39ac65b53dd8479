-- `spare_units::remainders` meets its contract: the remainders and their count so far. Assumes nothing.
use Prim.Native.Nat.{ℕ, ◌%◌}
use native.Mathlib.Nat.{le_antisymm}
use native.Mathlib.Omega.{arith}
use mathlib.Core.Path.{◌≡◌, refl, sym, ap, ◌∙◌}
use mathlib.Core.Bool.{cond}
use lib.Dec.{ltb}
use lib.ListN.{get_or, length-set}
use lib.IntN.{pos, ◌*ℤ◌}
use Rattle.lists.proofs.Tabulate.{fill_none, fill_more, filled_front}
use Rattle.lists.proofs.Sums.{count-more, count_none}
use Rattle.numerators.specs.Numerator.{numerator_of, remainder_of}
use Rattle.numerators.proofs.Biased.{modulo_biased}
use Rattle.spare_units.proofs.Bit.{bit-is, bit_le}
use Rattle.spare_units.proofs.remainders.Goals as goal

pub loop-i-init : goal.loop-i-init
loop-i-init c =
    (fill_none _ _, refl, omega arith, sym (count_none _ _))

pub raised-requires : goal.raised-requires
raised-requires c =
    (c.requires.3, c.requires.4 c.loop-i.i c.loop-i-test.true)

pub bounds-rest-i : goal.bounds-rest-i
bounds-rest-i c =
    omega (arith, c.requires.0)

pub overflow_add-rounded : goal.overflow_add-rounded
overflow_add-rounded c =
    omega (arith, bit_le, c.loop-i.invariant.2)

pub loop-i-preserved : goal.loop-i-preserved
unfolding remainder_of
loop-i-preserved c =
    let L = c.loop-i in
    let a = c.args in
    let f : ℕ → ℕ = λ k. remainder_of (get_or a.values.now k 0) a.divisor in
    let left : f L.i ≡ c.raised.result % a.divisor = modulo_biased (pos 65536 *ℤ numerator_of (get_or a.values.now L.i 0)) a.divisor 262144 c.raised.result c.requires.2 c.raised.ensures in
    let one = c.from-rounded.ensures ∙ bit-is _ ∙ ap (λ (k : ℕ). cond {A = ℕ} (ltb 0 k) 1 0) (sym left) in (
      fill_more _ _ _ _ _ (omega (arith, c.requires.0)) L.invariant.0 (sym left),
      simp length-set L.invariant.1,
      omega (arith, c.from-rounded.ensures, bit_le, L.invariant.2),
      omega (arith, count-more (ltb 0) f L.i, one, L.invariant.3),
    )

pub returns : goal.returns
returns c =
    let L = c.loop-i in
    let n = c.args.n in
    (L.invariant.1, filled_front _ n L.i _ _ L.auto.i-end c.loop-i-test.false L.invariant.0, rw (le_antisymm L.auto.i-end c.loop-i-test.false) at L.invariant.3)
