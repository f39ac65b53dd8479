-- `boxes::write_rows` meets its contract: the rows of means so far, and the rows of sums up to their windows' edge. Assumes nothing.
use Prim.Native.Nat.{◌+◌, ◌*◌}
use mathlib.Core.Path.{◌≡◌}
use mathlib.Core.List.{◌++◌}
use lib.ListN.{drop}
use Rattle.lists.specs.Tabulate.{raster}
use Rattle.model.specs.Box.{box_result}
use Rattle.frame.specs.Framed.{neighbours}
use Rattle.table_sizes.specs.Ring.{row_start}
use Rattle.area_tables.specs.HeldTable.{HeldTable}
use Rattle.boxes.proofs.write_rows.Given as goal

abbrev pub invariant-loop-v : goal.invariant-loop-v
invariant-loop-v l =
    (l.dst ≡ raster (λ i j. box_result l.window.r l.window.s (neighbours l.frame l.plane i j)) l.frame.width l.v ++ drop (l.v * l.frame.width) l.initial.dst)
    × (l.lower ≡ row_start l.frame.width l.window.r l.window.s (2 * l.window.s + l.v)) × HeldTable l.frame l.window.r l.window.s l.plane (2 * l.window.s + l.v) l.sums
