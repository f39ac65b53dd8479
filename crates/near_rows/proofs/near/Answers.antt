-- `near_rows::near` meets its contract: how far n times the level is from the numerator that is cut to its range. Assumes nothing.
use Prim.Native.Nat.{ℕ, ◌*◌, min}
use native.Mathlib.Omega.{arith}
use mathlib.Core.Path.{◌≡◌, refl, ◌∙◌}
use lib.IntN.{ℤ, pos, negsuc, nat_abs}
use Rattle.std.proofs.lemmas.Int.{ints, clamps}
use mir.Syntax.{w64}
use mir.Val.{SFits}
use mir.Facts.{to_z-of_z}
use borrow.Author.Rules.{rules}
use Rattle.std.specs.Int.{int_max}
use Rattle.integers.specs.Divide.{clamp}
use Rattle.model.specs.Within.{distance}
use Rattle.near_rows.specs.Near.{near, near_clamped}
use Rattle.near_rows.proofs.near.Goals as goal

-- the larger of a number and 0, cut at m
cut : (m : ℕ) (z : ℤ) → min (nat_abs (int_max z (pos 0))) m ≡ clamp m z
unfolding clamp
cut m (pos n) = omega (arith, ints, clamps)
cut m (negsuc n) = omega arith

pub returns : goal.returns
unfolding near_clamped near distance
returns c =
    let a = c.args in
    let m : c.max.result ≡ int_max a.z (pos 0) = rw (to_z-of_z c.ranges.z) at c.max.ensures.value in
    let fits : SFits w64 c.max.result = search rules in
    let x : c.min-x.result ≡ clamp (255 * a.n) a.z = c.min-x.ensures ∙ rw (to_z-of_z fits, m) (cut (255 * a.n) a.z) in
    rw (c.abs_diff.ensures, c.from.ensures, x) refl
