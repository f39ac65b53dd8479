-- `exact_boxes::first_columns` meets its contract: row by row. Assumes nothing.
use Prim.Native.Nat.{◌+◌, ◌-◌}
use native.Mathlib.Nat.{le_antisymm}
use native.Mathlib.Omega.{arith}
use mathlib.Core.Path.{ap, ◌∙◌}
use mathlib.Core.List.{List, ◌++◌}
use lib.ListN.{drop}
use lib.IntN.{ℤ, pos}
use Rattle.lists.proofs.Tabulate.{tabulate_ext, filled_behind, filled_at}
use borrow.Author.Rules.{rules}
use Rattle.exact_boxes.proofs.ColumnLaws.{front_none, front_more, rows_small, column_first}
use Rattle.exact_boxes.proofs.first_columns.Goals as goal

pub loop-j-init : goal.loop-j-init
loop-j-init c =
    let a = c.args in
    front_none a.frame a.plane.now (15 - a.s) (a.frame.width + 30) _ _ c.start_at.ensures

pub loop-j-preserved : goal.loop-j-preserved
loop-j-preserved c =
    let a = c.args in
    let L = c.loop-j in
    front_more a.frame a.plane.now (15 - a.s) L.j (a.frame.width + 30) _ _ _ L.sums _ c.padded_row.ensures L.invariant c.add_tap.ensures

pub returns : goal.returns
returns c =
    let a = c.args in
    let n = a.frame.width + 30 in
    let all = rw (le_antisymm c.loop-j.auto.j-end c.loop-j-test.false) at c.loop-j.invariant in
    rw (filled_behind _ n _ _ c.start_at.ensures) at all
    ∙ ap (λ (t : List ℤ). t ++ drop n a.sums.now) (tabulate_ext _ _ n (λ x _. column_first a.frame a.plane.now a.s x))

pub add_tap-requires : goal.add_tap-requires
add_tap-requires c =
    let a = c.args in
    let L = c.loop-j in (
      search rules,
      search rules,
      omega arith,
      λ u b. rw (filled_at _ (a.frame.width + 30) _ L.sums (pos 0) u L.invariant b)
          (omega (arith, rows_small a.frame a.plane.now (omega (arith, c.well_formed)) (λ i. omega (arith, (c.type_inv.plane i).fits)) (15 - a.s) L.j u (omega (arith, c.requires.1, c.loop-j-test.true)))),
    )
