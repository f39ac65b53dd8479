-- `recipe_stages::tests` meets its contract. Assumes nothing.
use native.Mathlib.Omega.{arith}
use lib.ListN.{drop}
use mathlib.Core.Path.{sym}
use Rattle.lists.proofs.Part.{tail_mid}
use Rattle.std.proofs.lemmas.Result.{err_from_is_err_and}
use Rattle.recipe_bytes.specs.Bytes.{at}
use Rattle.stage_fields.specs.StageFields.{head_tests}
use Rattle.recipe_stages.specs.StageBytes.{work_tests, stage_tests}
use Rattle.refusals.proofs.Passed.{refused_first, passed_first}
use Rattle.recipe_stages.proofs.ByKind.{head_known}
use Rattle.recipe_stages.proofs.tests.Goals as goal

pub returns-in_err-head : goal.returns-in_err-head
unfolding stage_tests
returns-in_err-head c =
    let p = err_from_is_err_and c.from_residual.result c.from_residual.ensures.1 in
    rw (p.1, p.2) (refused_first (head_tests c.args.part.now) _ (sym c.in_err-head.ensures))

pub slice_bounds-work_tests-count : goal.slice_bounds-work_tests-count
slice_bounds-work_tests-count c =
    omega (arith, head_known c.args.part.now (sym c.in_ok-head.ensures))

pub slice_bounds-work_tests-start : goal.slice_bounds-work_tests-start
slice_bounds-work_tests-start c =
    omega (arith, head_known c.args.part.now (sym c.in_ok-head.ensures))

pub returns : goal.returns
unfolding stage_tests
returns c =
    let b = c.args.part.now in
    rw (c.work_tests.ensures, c.kind_of.ensures, tail_mid 3 b) (passed_first (head_tests b) (work_tests (at b 0) (drop 3 b)) (sym c.in_ok-head.ensures))
