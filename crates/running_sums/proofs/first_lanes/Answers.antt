-- `running_sums::first_lanes` meets its contract. Assumes nothing.
use Rattle.std.proofs.Common.{refl, arith}
use Rattle.running_sums.proofs.Blocks.{lanes_first}
use Rattle.running_sums.proofs.first_lanes.Goals as goal

pub overflow_add-two : goal.overflow_add-two
overflow_add-two c =
    record { fits = omega (arith, c.type_inv.row 0, c.type_inv.row 1) }

pub overflow_add-three : goal.overflow_add-three
overflow_add-three c =
    record { fits = omega (arith, c.type_inv.row 0, c.type_inv.row 1, c.type_inv.row 2) }

pub returns : goal.returns
returns c =
    lanes_first c.args.row.now _ c.requires (λ i. omega (arith, c.type_inv.row i)) refl c.from-one.ensures (omega (arith, c.from.ensures)) (omega (arith, c.from-2.ensures))
