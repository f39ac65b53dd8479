-- `ranks::rank_stage` meets its contract: the plane kept behind is the one before the stage, and stays so. Assumes nothing.
use Prim.Native.Nat.{◌*◌}
use native.Mathlib.Omega.{arith}
use mathlib.Core.Path.{◌∙◌}
use mathlib.Core.List.{append-nil}
use lib.ListN.{drop_of_length-le}
use Rattle.frame.specs.Framed.{worked}
use Rattle.kept_planes.proofs.Planes.{rows_written, kept_behind}
use Rattle.kept_planes.proofs.Held.{kept_copy}
use Rattle.ranks.proofs.rank_stage.Goals as goal

pub rank_rows-requires : goal.rank_rows-requires
rank_rows-requires c =
    let a = c.args in
    let p = c.requires in
    (rw (c.split_at_mut-dst.ensures.back, kept_copy a.frame a.work.now _ p.1 c.keep.ensures) p.0, c.if-rank-le3.true, c.if-rank-le3-2.true, omega (arith, c.split_at_mut-dst.ensures.front_len))

pub rank_rows-requires-else-rank-le3 : goal.rank_rows-requires-else-rank-le3
rank_rows-requires-else-rank-le3 c =
    let a = c.args in
    let p = c.requires in
    (rw (c.split_at_mut-dst.ensures.back, kept_copy a.frame a.work.now _ p.1 c.keep.ensures) p.0, omega (arith, c.split_at_mut-dst.ensures.front_len))

pub returns-then-rank-le3-2 : goal.returns-then-rank-le3-2
unfolding worked
returns-then-rank-le3-2 c =
    let a = c.args in
    let p = c.requires in
    let n = a.frame.height * a.frame.width in
    let split = c.split_at_mut-dst in
    let same = kept_copy a.frame a.work.now _ p.1 c.keep.ensures in
    let rows = rw (drop_of_length-le split.result.0.now {i = n} (omega (arith, split.ensures.front_len)), append-nil, split.ensures.back, same) at c.rank_rows.ensures in
    (rows_written a.frame _ _ _ rows, kept_behind a.frame _ _ _ rows c.keep.new.work (omega (arith, p.1, c.keep.auto.work)) split.ensures.back ∙ same)

pub returns-else-rank-le3 : goal.returns-else-rank-le3
unfolding worked
returns-else-rank-le3 c =
    let a = c.args in
    let p = c.requires in
    let n = a.frame.height * a.frame.width in
    let split = c.split_at_mut-dst in
    let same = kept_copy a.frame a.work.now _ p.1 c.keep.ensures in
    let rows = rw (drop_of_length-le split.result.0.now {i = n} (omega (arith, split.ensures.front_len)), append-nil, split.ensures.back, same) at c.rank_rows-else-rank-le3.ensures in
    (rows_written a.frame _ _ _ rows, kept_behind a.frame _ _ _ rows c.keep.new.work (omega (arith, p.1, c.keep.auto.work)) split.ensures.back ∙ same)
