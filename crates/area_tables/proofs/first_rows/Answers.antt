-- `area_tables::first_rows` meets its contract: rows 0 to k are held. Assumes nothing.
use native.Mathlib.Omega.{arith}
use mathlib.Core.Path.{sym, ap}
use mathlib.Core.List.{List, ◌++◌}
use Prim.Native.Nat.{ℕ}
use lib.ListN.{drop}
use lib.Seq.{length-take-le}
use Rattle.table_sizes.specs.Ring.{table_width}
use Rattle.area_tables.proofs.Held.{first_place, place_fits, held_first}
use Rattle.area_tables.proofs.first_rows.Goals as goal

pub loop-k-init : goal.loop-k-init
loop-k-init c =
    let a = c.args in
    let n = table_width a.frame.width a.window.r in
    let zeros = rw (c.table_width.ensures, length-take-le n a.sums.now (omega (arith, place_fits a.frame.width a.window.r a.window.s 0 c.requires.3))) at (c.fill.ensures.after (λ y e. e)) in
    (sym (first_place a.frame.width a.window.r a.window.s), held_first a.frame a.window.r a.window.s a.plane.now _ _ (ap (λ (t : List ℕ). t ++ drop c.table_width.result a.sums.now) zeros))
