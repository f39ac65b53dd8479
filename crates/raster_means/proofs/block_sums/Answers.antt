-- `raster_means::block_sums` meets its contract: raster by raster. Assumes nothing.
use Prim.Native.Nat.{◌+◌, ◌*◌, ◌<◌}
use native.Mathlib.Omega.{arith}
use lib.ListN.{length-drop}
use Rattle.lists.proofs.Part.{tail_mid}
use Rattle.lists.proofs.Tabulate.{filled_at}
use Rattle.raster_means.proofs.PlaceSums.{sums_none, sums_more, sum-le, part-inside}
use Rattle.raster_means.proofs.block_sums.Goals as goal

pub loop-i-init : goal.loop-i-init
loop-i-init c =
    let a = c.args in
    let p = c.requires in
    sums_none a.rasters.now a.size a.at a.n a.sums.now p.3 p.4

pub overflow_mul-i : goal.overflow_mul-i
overflow_mul-i c =
    let b : c.loop-i.i < c.args.k = omega arith in
    record { fits = omega (arith, part-inside c.args.at c.args.n b c.requires.1 c.requires.2) }

pub overflow_add-i : goal.overflow_add-i
overflow_add-i c =
    let b : c.loop-i.i < c.args.k = omega arith in
    record { fits = omega (arith, part-inside c.args.at c.args.n b c.requires.1 c.requires.2) }

pub slice_bounds-add_samples-count : goal.slice_bounds-add_samples-count
slice_bounds-add_samples-count c =
    let b : c.loop-i.i < c.args.k = omega arith in
    omega (arith, part-inside c.args.at c.args.n b c.requires.1 c.requires.2)

pub slice_bounds-add_samples-start : goal.slice_bounds-add_samples-start
slice_bounds-add_samples-start c =
    let b : c.loop-i.i < c.args.k = omega arith in
    omega (arith, part-inside c.args.at c.args.n b c.requires.1 c.requires.2)

pub add_samples-requires : goal.add_samples-requires
add_samples-requires c =
    let a = c.args in
    let p = c.requires in
    let L = c.loop-i in
    let b : L.i < a.k = omega arith in
    let at = L.i * a.size + a.at in (
      omega arith,
      rw (tail_mid at a.rasters.now, length-drop) (omega (arith, part-inside a.at a.n b p.1 p.2)),
      λ u less. rw (filled_at _ a.n _ L.sums 0 u L.invariant less) (omega (arith, sum-le a.rasters.now a.size L.i (a.at + u) (λ j. omega (arith, c.type_inv.rasters j)), b, p.0)),
    )

pub loop-i-preserved : goal.loop-i-preserved
loop-i-preserved c =
    let a = c.args in
    let L = c.loop-i in
    sums_more a.rasters.now a.size a.at a.n L.i _ L.sums _ L.invariant c.add_samples.ensures
