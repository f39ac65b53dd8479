-- `weights::numerator` meets its contract. An f32 that is no NaN goes to an f64 as it is. Scaled by 2 ^ 35 it is a whole number up to 2 ^ 37, and not 0, so the cast is defined.
-- Assumes nothing.
use mathlib.Core.Path.{sym, ap, ◌∙◌, subst}
use mathlib.Core.Bool.{false, not}
use lib.Dec.{T}
use lib.IntN.{pos}
use lib.Ieee.{Float, fin, fits, is_nan, binary32, binary64, of_bits, to_bits, mul, eq, in_signed, to_signed}
use lib.Ieee.Fits.{fits_widens, and_i}
use lib.Ieee.Bits.{of_bits-to_bits}
use lib.Ieee.Casts.{to_signed_in}
use mir.Syntax.{w64}
use mir.ValLaws.{to_z-of_z}
use Rattle.weights.specs.Bits.{accepted}
use Rattle.weights.specs.Weight.{usable, numerator_of}
use Rattle.weights.specs.declared.Weight.{Weight}
use Rattle.weights.proofs.Laws.{as_none, as_bits, cast_wide, not-nan}
use borrow.Author.Rules.{rules}
use Rattle.weights.proofs.numerator.Goals as goal

pub returns-in-Whole : goal.returns-in-Whole
returns-in-Whole c =
    search rules ∙ ap numerator_of (sym c.in-Whole.is)

pub returns-then-x : goal.returns-then-x
returns-then-x c =
    let x = c.in-Real.x in
    let e = c.in-Real.is in
    let t : T (accepted (to_bits binary32 x)) = subst (λ (z : Weight). T (usable z)) e c.requires in
    let f : T (fits binary32 x) = search rules in
    let r = of_bits-to_bits binary32 x f in
    sym (as_none (to_bits binary32 x) t (ap (λ (z : Float). eq z (of_bits binary32 0)) r ∙ c.if-x.true)) ∙ ap numerator_of (sym e)

pub float_to_float-result : goal.float_to_float-result
float_to_float-result c =
    let x = c.in-Real.x in
    let t : T (accepted (to_bits binary32 x)) = subst (λ (z : Weight). T (usable z)) c.in-Real.is c.requires in
    let f : T (fits binary32 x) = c.type_inv.x in
    and_i (fits binary64 x) (not (is_nan x)) (fits_widens x f) (subst (λ (z : Float). T (not (is_nan z))) (of_bits-to_bits binary32 x f) (not-nan (to_bits binary32 x) t))

pub float_to_int-result : goal.float_to_int-result
unfolding of_bits
float_to_int-result c =
    let x = c.in-Real.x in
    let t : T (accepted (to_bits binary32 x)) = subst (λ (z : Weight). T (usable z)) c.in-Real.is c.requires in
    let f : T (fits binary32 x) = search rules in
    let r = of_bits-to_bits binary32 x f in
    subst (λ (z : Float). T (in_signed binary64 63 (mul binary64 z (fin false 1 (pos 35))))) r
    (as_bits (to_bits binary32 x) t (ap (λ (z : Float). eq z (of_bits binary32 0)) r ∙ c.if-x.false))

pub returns-else-x : goal.returns-else-x
unfolding of_bits
returns-else-x c =
    let x = c.in-Real.x in
    let e = c.in-Real.is in
    let t : T (accepted (to_bits binary32 x)) = subst (λ (z : Weight). T (usable z)) e c.requires in
    let f : T (fits binary32 x) = search rules in
    let r = of_bits-to_bits binary32 x f in
    let y = mul binary64 x (fin false 1 (pos 35)) in
    to_z-of_z w64 (to_signed 63 y) (record { sfits = to_signed_in 63 y })
    ∙ ap (λ (z : Float). to_signed 63 (mul binary64 z (fin false 1 (pos 35)))) (sym r)
    ∙ cast_wide (to_bits binary32 x) t
    ∙ ap numerator_of (sym e)
