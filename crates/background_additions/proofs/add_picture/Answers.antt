-- `background_additions::add_picture` meets its contract, by the verdict of the tests. Assumes nothing.
use native.Mathlib.Omega.{arith}
use mathlib.Core.Path.{sym}
use Rattle.std.proofs.lemmas.Result.{err_from_is_err_and}
use Rattle.background_additions.proofs.Tests.{refuses}
use Rattle.background_additions.proofs.Added.{accepted, added}
use Rattle.background_additions.proofs.add_picture.Goals as goal

pub put_still-requires : goal.put_still-requires
put_still-requires c =
    let a = accepted _ _ _ _ _ _ _ _ _ (sym c.in_ok-add_tests.ensures) in
    rw c.requires.2 (a.room, a.space)

pub overflow_add-result : goal.overflow_add-result
overflow_add-result c =
    record { fits = omega (arith, (accepted _ _ _ _ _ _ _ _ _ (sym c.in_ok-add_tests.ensures)).few) }

pub returns-in_err-add_tests : goal.returns-in_err-add_tests
returns-in_err-add_tests c =
    let a = c.args in
    let p = err_from_is_err_and c.from_residual.result c.from_residual.ensures.1 in
    rw (p.1, p.2) (refuses a.rasters.now a.labels.now _ _ (sym c.in_err-add_tests.ensures))

pub returns : goal.returns
returns c =
    let a = c.args in
    let p = a.picture in
    added a.number a.tolerance p.width p.height p.channels a.held a.raster.now a.rasters.now a.labels.now c.requires.2 (sym c.in_ok-add_tests.ensures) c.put_still.ensures.0 c.put_still.ensures.1
