-- `tolerance::quotient_up` meets its contract: the library rounds up to the same number. Assumes nothing.
use Prim.Native.Nat.{ℕ, ◌+◌, ◌*◌, ◌/◌, ◌%◌, ◌<◌, min}
use native.Mathlib.Nat.{mul-le-mul}
use native.Mathlib.Omega.{arith}
use mathlib.Core.Path.{◌≡◌, sym, ◌∙◌}
use Rattle.std.proofs.Math.Nat.{div-eq_of_lt-le}
use Rattle.std.proofs.lemmas.Grind.{div_ceil_times}
use Rattle.integers.specs.Divide.{ceil_div}
use Rattle.integers.proofs.Divide.{ceil_least}
use Rattle.tolerance.proofs.quotient_up.Goals as goal

same : (x d : ℕ) → 0 < d → ceil_div x d ≡ x / d + min 1 (x % d)
unfolding ceil_div
same x d h = let t = div_ceil_times x d h in div-eq_of_lt-le d (omega (arith, t)) (omega (arith, t))

pub overflow_mul-a : goal.overflow_mul-a
overflow_mul-a c =
    omega (arith, mul-le-mul c.requires.0 c.requires.1)

pub returns : goal.returns
returns c =
    let x = c.args.a * c.args.b in
    let e = c.div_ceil.ensures ∙ sym (same x c.args.d c.requires.2) in
    (e, rw e (ceil_least x c.args.d 4611686018427387904 c.requires.2 (omega (arith, mul-le-mul c.requires.0 c.requires.1))))
