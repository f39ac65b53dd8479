-- `file_filter::run` meets its contract: the header, then the raster in the part behind it. Assumes nothing.
use Prim.Native.Nat.{◌*◌, ◌-◌}
use native.Mathlib.Omega.{arith}
use lib.ListN.{length, length-drop}
use Rattle.lists.proofs.Part.{tail_mid}
use Rattle.header_writer.specs.Heading.{header_bytes}
use Rattle.recipe.specs.Recipe.{recipe_stages}
use Rattle.picture_sizes.proofs.PictureSizeLaws.{size_small}
use Rattle.filter_answers.specs.FileAnswer.{file_size}
use Rattle.raster_filter.specs.FilteredRaster.{filtered_raster}
use Rattle.file_filter.proofs.Behind.{raster_behind}
use Rattle.file_filter.proofs.run.Goals as goal

pub overflow_mul-start : goal.overflow_mul-start
overflow_mul-start c =
    let a = c.args in
    let p = c.requires in
    record { fits = omega (arith, (size_small a.w a.h a.channels p.0.width.1 p.0.height.1 p.2).0) }

pub overflow_mul-start-2 : goal.overflow_mul-start-2
overflow_mul-start-2 c =
    let a = c.args in
    let p = c.requires in
    record { fits = omega (arith, (size_small a.w a.h a.channels p.0.width.1 p.0.height.1 p.2).1) }

pub put_header-len-requires : goal.put_header-len-requires
unfolding file_size
put_header-len-requires c =
    let p = c.requires in (p.0.width.1, p.0.height.1, omega (arith, p.4))

pub slice_bounds-filter_raster-count-2 : goal.slice_bounds-filter_raster-count-2
unfolding file_size
slice_bounds-filter_raster-count-2 c =
    omega (arith, c.out-1.given, c.put_header-len.ensures.0, c.requires.4)

pub slice_bounds-filter_raster-start-2 : goal.slice_bounds-filter_raster-start-2
unfolding file_size
slice_bounds-filter_raster-start-2 c =
    omega (arith, c.out-1.given, c.put_header-len.ensures.0, c.requires.4)

pub filter_raster-requires : goal.filter_raster-requires
unfolding file_size
filter_raster-requires c =
    let a = c.args in
    let p = c.requires in
    let still = a.still.now in
    let one = c.put_header-len.new.out in
    let len = c.put_header-len.result in
    (p.0, p.1, p.2, rw (tail_mid (length still - a.w * a.h * a.channels) still, length-drop) (omega (arith, p.3)), rw (tail_mid len one, length-drop) (omega (arith, c.out-1.given, p.4, c.put_header-len.ensures.0)))

pub returns : goal.returns
unfolding file_size
returns c =
    let a = c.args in
    let h = c.put_header-len.ensures in
    raster_behind (filtered_raster a.w a.h a.channels (recipe_stages a.recipe.now)) (header_bytes a.w a.h a.channels) a.still.now a.out.now c.put_header-len.new.out _ c.put_header-len.result (length a.still.now - a.w * a.h * a.channels) (a.w * a.h * a.channels) h.0 h.1 c.filter_raster.ensures
