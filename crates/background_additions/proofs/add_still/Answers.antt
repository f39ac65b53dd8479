-- `background_additions::add_still` meets its contract. Assumes nothing.
use mathlib.Core.Path.{sym}
use Rattle.std.proofs.lemmas.Result.{err_from_is_err_and}
use Rattle.lists.proofs.Part.{tail_mid}
use Rattle.background_additions.proofs.Tests.{still_refuses, still_read, readable}
use Rattle.background_additions.proofs.add_still.Goals as goal

pub slice_bounds-raster-count : goal.slice_bounds-raster-count
slice_bounds-raster-count c =
    (readable c.args.still.now (sym c.in_ok-picture.ensures)).begins

pub slice_bounds-raster-start : goal.slice_bounds-raster-start
slice_bounds-raster-start c =
    (readable c.args.still.now (sym c.in_ok-picture.ensures)).begins

pub add_picture-requires : goal.add_picture-requires
add_picture-requires c =
    let r = readable c.args.still.now (sym c.in_ok-picture.ensures) in
    (r.plane, r.size, rw (tail_mid _ c.args.still.now) r.raster)

pub returns-in_err-picture : goal.returns-in_err-picture
returns-in_err-picture c =
    let a = c.args in
    let p = err_from_is_err_and c.from_residual.result c.from_residual.ensures.1 in
    rw (p.1, p.2) (still_refuses a.still.now a.number a.tolerance a.rasters.now a.labels.now _ (sym c.in_err-picture.ensures))

pub returns : goal.returns
returns c =
    let a = c.args in
    rw (still_read a.still.now a.number a.tolerance _ _ _ (sym c.in_ok-picture.ensures)) (rw (tail_mid _ a.still.now) at c.add_picture.ensures)
