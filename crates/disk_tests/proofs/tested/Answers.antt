-- `disk_tests::tested` meets its contract: each return follows the first file that is refused, and the last none. Assumes nothing.
use mathlib.Core.Path.{sym, ◌∙◌}
use Rattle.std.specs.Prelude.{Ok, []}
use Rattle.std.proofs.lemmas.Result.{err_from_is_err_and}
use Rattle.refusals.proofs.Passed.{refused_before, given_before}
use Rattle.disk_tests.specs.Disk.{found, disk_tests, file_tests, size}
use Rattle.disk_tests.proofs.tested.Goals as goal

pub returns-in_err-a : goal.returns-in_err-a
unfolding found disk_tests
returns-in_err-a c =
    let p = err_from_is_err_and c.from_residual.result c.from_residual.ensures.1 in
    let a = c.args in
    rw (p.1, p.2) (sym (refused_before _ (file_tests a.recipe 4096) (Ok (size a.still, size a.recipe)) (file_tests a.still 65536) (sym c.length_of.ensures ∙ c.in_err-a.was)))

pub returns-in_err-b : goal.returns-in_err-b
unfolding found disk_tests
returns-in_err-b c =
    let p = err_from_is_err_and c.from_residual-in_err-b.result c.from_residual-in_err-b.ensures.1 in
    let a = c.args in
    let first = given_before _ (file_tests a.recipe 4096) (Ok (size a.still, size a.recipe)) (file_tests a.still 65536) (sym c.length_of.ensures ∙ c.in_ok-a.was) in
    rw (p.1, p.2) (sym (first.1 ∙ refused_before _ [] (Ok (size a.still, size a.recipe)) (file_tests a.recipe 4096) (sym c.length_of-2.ensures ∙ c.in_err-b.was)))

pub returns : goal.returns
unfolding found disk_tests
returns c =
    let a = c.args in
    let first = given_before _ (file_tests a.recipe 4096) (Ok (size a.still, size a.recipe)) (file_tests a.still 65536) (sym c.length_of.ensures ∙ c.in_ok-a.was) in
    let second = given_before _ [] (Ok (size a.still, size a.recipe)) (file_tests a.recipe 4096) (sym c.length_of-2.ensures ∙ c.in_ok-b.was) in
    rw (← first.0, ← second.0) (sym (first.1 ∙ second.1))
