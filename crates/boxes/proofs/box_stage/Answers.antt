-- `boxes::box_stage` meets its contract: the plane kept behind is the one before the stage, and stays so. Assumes nothing.
use native.Mathlib.Omega.{arith}
use mathlib.Core.Path.{◌∙◌}
use Rattle.frame.specs.Framed.{worked}
use Rattle.kept_planes.proofs.Planes.{rows_written, kept_behind}
use Rattle.kept_planes.proofs.Held.{kept_copy}
use Rattle.boxes.proofs.box_stage.Goals as goal

pub first_rows-last-requires : goal.first_rows-last-requires
first_rows-last-requires c =
    let a = c.args in
    let p = c.requires in
    (rw (c.split_at_mut-dst.ensures.back, kept_copy a.frame a.work.now _ p.1 c.keep.ensures) p.0, omega (arith, p.0.width.1), omega (arith, p.0.width.1), p.2)

pub write_rows-requires : goal.write_rows-requires
write_rows-requires c =
    let a = c.args in
    let p = c.requires in
    let e = c.first_rows-last.ensures in (
      rw (c.split_at_mut-dst.ensures.back, kept_copy a.frame a.work.now _ p.1 c.keep.ensures) p.0,
      omega (arith, p.0.width.1),
      omega (arith, p.0.width.1),
      omega (arith, p.2, c.first_rows-last.auto.sums),
      e.0,
      e.1,
      c.split_at_mut-dst.ensures.front_len,
    )

pub returns : goal.returns
unfolding worked
returns c =
    let a = c.args in
    let p = c.requires in
    let same = kept_copy a.frame a.work.now _ p.1 c.keep.ensures in
    let back = c.split_at_mut-dst.ensures.back in
    let rows = rw (back, same) at c.write_rows.ensures in
    (rows_written a.frame _ _ _ rows, kept_behind a.frame _ _ _ rows c.keep.new.work (omega (arith, p.1, c.keep.auto.work)) back ∙ same)
