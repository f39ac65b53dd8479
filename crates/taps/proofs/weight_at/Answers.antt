-- `taps::weight_at` meets its contract. Assumes nothing.
use Prim.Native.Nat.{◌<◌, ◌^◌}
use native.Mathlib.Omega.{arith}
use mathlib.Core.Path.{◌≡◌, ap, ◌∙◌}
use lib.Dec.{T}
use lib.Ieee.{binary32, of_bits}
use mir.Syntax.{w64}
use mir.Val.{to_z, of_z}
use Rattle.weights.specs.Bits.{accepted, numerator_bits}
use Rattle.weights.proofs.Laws.{real_usable, real_numerator, numerator_small}
use Rattle.axis_fields.specs.AxisFields.{weight_length}
use Rattle.taps.specs.TapBytes.{numerator_at}
use borrow.Author.Rules.{rules}
use Rattle.taps.proofs.weight_at.Goals as goal

pub bits_at-requires : goal.bits_at-requires
unfolding weight_length
bits_at-requires c =
    rw c.if-real.true at c.requires.1

pub real_tap-tap-requires : goal.real_tap-tap-requires
real_tap-tap-requires c =
    rw c.bits_at.ensures (c.requires.2 (rw c.if-real.true tt))

pub returns-then-real : goal.returns-then-real
unfolding numerator_at
returns-then-real c =
    let b = c.bits_at.result in
    let t : T (accepted b) = rw c.bits_at.ensures (c.requires.2 (rw c.if-real.true tt)) in
    let h : b < 2 ^ 32 = omega arith in
    let w : c.real_tap-tap.result.weight ≡ of_bits binary32 b = ap (λ r. r.weight) c.real_tap-tap.ensures in
    rw (w, c.if-real.true) (real_usable b h t, real_numerator b h t ∙ ap numerator_bits c.bits_at.ensures, rw (real_numerator b h t) (numerator_small b t))

pub ratio_at-requires : goal.ratio_at-requires
unfolding weight_length
ratio_at-requires c =
    rw c.if-real.false at c.requires.1

pub returns-else-real : goal.returns-else-real
unfolding numerator_at
returns-else-real c =
    let s : to_z w64 (of_z w64 c.ratio_at.result) ≡ c.ratio_at.result = search rules in
    rw (c.if-real.false, s) (tt, c.ratio_at.ensures.0, c.ratio_at.ensures.1)
