-- `plane_filter::run` meets its contract: in, through, out. Assumes nothing.
use Prim.Native.Nat.{ℕ, ◌*◌}
use native.Mathlib.Nat.{mul-le-mul}
use native.Mathlib.Omega.{arith}
use mathlib.Core.Path.{ap, ◌∙◌}
use mathlib.Core.List.{List, ◌++◌}
use lib.ListN.{drop}
use lib.Seq.{take_all}
use Rattle.recipe.specs.Recipe.{recipe_stages}
use Rattle.stages.proofs.Through.{front_is, front_through}
use Rattle.plane_filter.proofs.run.Goals as goal

pub overflow_mul-n : goal.overflow_mul-n
overflow_mul-n c =
    let p = c.requires.0 in
    record { fits = omega (arith, mul-le-mul {n₂ = 8192} {m₂ = 8192} p.width.1 p.height.1) }

pub copy_front-requires : goal.copy_front-requires
copy_front-requires c =
    let p = c.requires in
    (omega (arith, p.1), omega (arith, p.0.enough-work))

pub run_stages-requires : goal.run_stages-requires
run_stages-requires c =
    let p = c.requires.0 in
    record { width = p.width; height = p.height; accepted = p.accepted; enough-work = omega (arith, p.enough-work); enough-rows = p.enough-rows; enough-sums = p.enough-sums }

pub copy_front-requires-2 : goal.copy_front-requires-2
copy_front-requires-2 c =
    let p = c.requires in
    (omega (arith, p.0.enough-work), p.2)

pub returns : goal.returns
returns c =
    let a = c.args in
    let p = c.requires in
    let whole = take_all (a.w * a.h) a.plane.now (omega (arith, p.1)) in
    let e = rw whole at c.copy_front.ensures in
    c.copy_front-2.ensures ∙ ap (λ (l : List ℕ). l ++ drop (a.w * a.h) a.out.now)
    (front_through a.w a.h (recipe_stages a.recipe.now) a.plane.now _ _ (front_is a.w a.h a.plane.now a.work.now _ p.1 e) c.run_stages.ensures)
