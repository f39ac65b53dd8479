-- `running_sums::next_lanes` meets its contract. Assumes nothing.
use Rattle.std.proofs.Common.{refl}
use Rattle.running_sums.proofs.Blocks.{lanes_added}
use Rattle.running_sums.proofs.next_lanes.Goals as goal

pub returns : goal.returns
returns c =
    lanes_added _ c.args.t c.args.fours.now (rw c.from.ensures refl) (rw c.from-2.ensures refl) (rw c.from-3.ensures refl) (rw c.from-4.ensures refl)
