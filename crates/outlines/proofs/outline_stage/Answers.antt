-- `outlines::outline_stage` meets its contract: the plane kept behind is the one before the stage, and stays so. Assumes nothing.
use native.Mathlib.Omega.{arith}
use mathlib.Core.Path.{◌∙◌}
use Rattle.frame.specs.Framed.{worked}
use Rattle.kept_planes.proofs.Planes.{rows_written, kept_behind}
use Rattle.kept_planes.proofs.Held.{kept_copy, held_made}
use Rattle.outlines.proofs.outline_stage.Goals as goal

pub padded_row-requires : goal.padded_row-requires
padded_row-requires c =
    let a = c.args in
    let p = c.requires in
    (rw (c.split_at_mut-dst.ensures.back, kept_copy a.frame a.work.now _ p.1 c.keep.ensures) p.0, omega arith, omega (arith, p.0.width.1))

pub padded_row-requires-2 : goal.padded_row-requires-2
padded_row-requires-2 c =
    let a = c.args in
    let p = c.requires in
    (rw (c.split_at_mut-dst.ensures.back, kept_copy a.frame a.work.now _ p.1 c.keep.ensures) p.0, omega arith, omega (arith, p.0.width.1))

pub write_rows-requires : goal.write_rows-requires
write_rows-requires c =
    let a = c.args in
    let p = c.requires in
    (rw (c.split_at_mut-dst.ensures.back, kept_copy a.frame a.work.now _ p.1 c.keep.ensures) p.0, omega (arith, p.0.width.1), held_made a.frame _ 14 _ _ c.padded_row.ensures, held_made a.frame _ 15 _ _ c.padded_row-2.ensures, c.split_at_mut-dst.ensures.front_len)

pub returns : goal.returns
unfolding worked
returns c =
    let a = c.args in
    let p = c.requires in
    let same = kept_copy a.frame a.work.now _ p.1 c.keep.ensures in
    let back = c.split_at_mut-dst.ensures.back in
    let rows = rw (back, same) at c.write_rows.ensures in
    (rows_written a.frame _ _ _ rows, kept_behind a.frame _ _ _ rows c.keep.new.work (omega (arith, p.1, c.keep.auto.work)) back ∙ same)
