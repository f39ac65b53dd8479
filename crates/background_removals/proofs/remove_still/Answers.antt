-- `background_removals::remove_still` meets its contract, by what the tests found. Assumes nothing.
use Prim.Native.Nat.{ℕ, ◌+◌, ◌*◌, ◌-◌}
use native.Mathlib.Omega.{arith}
use mathlib.Core.Path.{◌≡◌, sym, ap}
use Rattle.std.proofs.lemmas.Result.{err_from_is_err_and}
use Rattle.background_removals.proofs.Removed.{removal-refused, finds, removed}
use Rattle.background_removals.proofs.remove_still.Goals as goal

pub overflow_sub-last : goal.overflow_sub-last
overflow_sub-last c =
    omega (arith, (finds c.args.number c.args.held c.args.rasters.now c.args.labels.now (sym c.in_ok-gap.ensures)).found)

pub raster_size-size-requires : goal.raster_size-size-requires
raster_size-size-requires c =
    (finds c.args.number c.args.held c.args.rasters.now c.args.labels.now (sym c.in_ok-gap.ensures)).lent.small-numbers

pub close_gap-requires : goal.close_gap-requires
close_gap-requires c =
    let a = c.args in
    let f = finds a.number a.held a.rasters.now a.labels.now (sym c.in_ok-gap.ensures) in
    let e : a.held.count - 1 + 1 ≡ a.held.count = omega (arith, f.found) in
    rw c.raster_size-size.ensures (
      omega (arith, f.found),
      omega (arith, ap (λ (k : ℕ). k * (a.held.width * a.held.height * a.held.channels)) e, f.lent.rasters-inside),
      omega (arith, f.found, f.lent.labels-inside),
    )

pub returns-in_err-gap : goal.returns-in_err-gap
returns-in_err-gap c =
    let a = c.args in
    let p = err_from_is_err_and c.from_residual.result c.from_residual.ensures.1 in
    rw (p.1, p.2) (removal-refused a.number a.held a.rasters.now a.labels.now (sym c.in_err-gap.ensures))

pub returns : goal.returns
returns c =
    let a = c.args in
    let closed = rw c.raster_size-size.ensures at c.close_gap.ensures in
    removed a.number a.held a.rasters.now a.labels.now (sym c.in_ok-gap.ensures) closed.0 closed.1
