-- `raster_filter::filter_raster` meets its contract: the channels so far are in place, and all else is as it was. Assumes nothing.
use Prim.Native.Nat.{ℕ, ◌*◌}
use native.Mathlib.Nat.{mul-le-mul, le_antisymm}
use native.Mathlib.Omega.{arith}
use mathlib.Core.Path.{sym, ap, ◌∙◌}
use mathlib.Core.List.{List}
use lib.ListN.{get_or}
use lib.Seq.{get_or-take}
use Rattle.recipe.specs.Recipe.{recipe_stages}
use Rattle.channels.specs.Channel.{channel}
use Rattle.channels.proofs.Interleaved.{placed-none, placed-more, placed-all, channel-length}
use Rattle.raster_filter.specs.FilteredRaster.{filtered_raster}
use Rattle.stages.proofs.Through.{front_is, front_through}
use Rattle.raster_filter.proofs.filter_raster.Invariants.{planes}
use Rattle.raster_filter.proofs.filter_raster.Goals as goal

pub overflow_mul-n : goal.overflow_mul-n
overflow_mul-n c =
    let p = c.requires.0 in
    record { fits = omega (arith, mul-le-mul {n₂ = 8192} {m₂ = 8192} p.width.1 p.height.1) }

pub loop-c-init : goal.loop-c-init
loop-c-init c =
    let a = c.args in
    placed-none a.channels (a.w * a.h) (planes a.recipe.now a.w a.h a.channels (a.w * a.h) a.raster.now) a.out.now

pub take_channel-requires : goal.take_channel-requires
take_channel-requires c =
    let p = c.requires in
    let L = c.loop-c in
    (mul-le-mul {n₂ = 8192} {m₂ = 8192} p.0.width.1 p.0.height.1, p.2, c.loop-c-test.true, p.3, omega (arith, L.auto.work, p.0.enough-work))

pub run_stages-requires : goal.run_stages-requires
run_stages-requires c =
    let p = c.requires.0 in
    record { width = p.width; height = p.height; accepted = p.accepted; enough-work = omega arith; enough-rows = omega arith; enough-sums = omega arith }

pub put_channel-requires : goal.put_channel-requires
put_channel-requires c =
    let p = c.requires in
    let L = c.loop-c in
    (mul-le-mul {n₂ = 8192} {m₂ = 8192} p.0.width.1 p.0.height.1, p.2, c.loop-c-test.true, omega (arith, L.auto.work, p.0.enough-work), rw L.auto.out p.4)

pub loop-c-preserved : goal.loop-c-preserved
loop-c-preserved c =
    let a = c.args in
    let L = c.loop-c in
    let n = a.w * a.h in
    let raster = a.raster.now in
    let ts = recipe_stages a.recipe.now in
    let plane = channel a.channels n raster L.c in
    let front = front_through a.w a.h ts plane _ _ (front_is a.w a.h plane L.work _ (channel-length a.channels n raster L.c) c.take_channel.ensures) c.run_stages.ensures in
    placed-more a.channels n (planes a.recipe.now a.w a.h a.channels n raster) a.out.now L.c L.out c.put_channel.new.dst c.run_stages.new.work L.invariant c.put_channel.ensures
    (λ i b. sym (get_or-take n _ i 0 b) ∙ ap (λ (l : List ℕ). get_or l i 0) front) c.requires.1

pub returns : goal.returns
unfolding filtered_raster
returns c =
    let a = c.args in
    let L = c.loop-c in
    let e = le_antisymm L.auto.c-end c.loop-c-test.false in
    placed-all a.channels (a.w * a.h) (planes a.recipe.now a.w a.h a.channels (a.w * a.h) a.raster.now) a.out.now L.out L.auto.out c.requires.4 c.requires.1 (rw e at L.invariant)
