-- `spare_units::lacking_units` meets its contract. Assumes nothing.
use Prim.Native.Nat.{ℕ, ◌+◌, ◌*◌, ◌/◌}
use native.Mathlib.Omega.{arith}
use mathlib.Core.Path.{ap}
use lib.ListN.{get_or}
use Rattle.lists.proofs.Sums.{sum_bound}
use Rattle.spare_units.proofs.lacking_units.Goals as goal

pub sum_of-requires : goal.sum_of-requires
sum_of-requires c =
    (c.requires.0, c.requires.1, c.requires.3, c.requires.4)

pub overflow_mul-result : goal.overflow_mul-result
overflow_mul-result c =
    let p = c.requires in
    omega (arith, c.sum_of.ensures, sum_bound (λ (k : ℕ). get_or c.args.rest.now k 0) c.args.n 34359738368 (λ k l. omega (arith, p.4 k l)))

pub overflow_add-result : goal.overflow_add-result
overflow_add-result c =
    let p = c.requires in
    omega (arith, c.sum_of.ensures, sum_bound (λ (k : ℕ). get_or c.args.rest.now k 0) c.args.n 34359738368 (λ k l. omega (arith, p.4 k l)))

pub returns : goal.returns
returns c =
    ap (λ (s : ℕ). (2 * s + c.args.divisor) / (2 * c.args.divisor)) c.sum_of.ensures
