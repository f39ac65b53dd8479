-- `buffers::copy_all` meets its contract: nothing is left behind what is copied. Assumes nothing.
use native.Mathlib.Omega.{arith}
use mathlib.Core.List.{append-nil}
use lib.ListN.{drop_of_length-le}
use lib.Seq.{take_all}
use Rattle.std.specs.Prelude.{length}
use Rattle.buffers.proofs.copy_all.Goals as goal

pub copy_front-requires : goal.copy_front-requires
copy_front-requires c =
    (omega arith, omega (arith, c.requires))

pub returns : goal.returns
returns c =
    let a = c.args in
    rw (take_all (length a.src.now) a.src.now (omega arith), drop_of_length-le a.dst.now {i = length a.src.now} (omega (arith, c.requires)), append-nil) at c.copy_front.ensures
