-- `table_sizes::ring_size` meets its contract. Assumes nothing.
use native.Mathlib.Omega.{arith}
use mathlib.Core.Path.{refl}
use Rattle.table_sizes.proofs.Tables.{ring_small}
use Rattle.table_sizes.proofs.ring_size.Goals as goal

pub overflow_mul-result-2 : goal.overflow_mul-result-2
overflow_mul-result-2 c =
    let x = c.args.window in
    record { fits = rw c.table_width.ensures (omega (arith, ring_small c.args.w x.r x.s c.requires x.near.0 x.near.1)) }

pub returns : goal.returns
returns c =
    rw c.table_width.ensures refl
