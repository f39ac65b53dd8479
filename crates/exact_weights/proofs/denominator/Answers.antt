-- `exact_weights::denominator` meets its contract: two numbers of 16 bits. Assumes nothing.
use Rattle.std.proofs.Common.{ℕ, ◌*◌, ◌≤◌, ◌^◌, refl, arith, mul-le-mul}
use Rattle.exact_weights.proofs.denominator.Goals as goal

small : {a b : ℕ} → a ≤ 65535 → b ≤ 65535 → a * b ≤ 2 ^ 32
small h k = omega (arith, mul-le-mul {n₂ = 65535} {m₂ = 65535} h k)

pub overflow_mul-result : goal.overflow_mul-result
overflow_mul-result c =
    record { fits = omega (arith, small c.args.across.whole.low c.args.down.whole.low) }

pub returns : goal.returns
returns c =
    (refl, small c.args.across.whole.low c.args.down.whole.low)
