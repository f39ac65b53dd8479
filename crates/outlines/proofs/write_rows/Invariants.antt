-- `outlines::write_rows` meets its contract: row by row, with the rows above, at and below each in hand. Assumes nothing.
use Prim.Native.Nat.{◌+◌, ◌*◌}
use mathlib.Core.Path.{◌≡◌}
use mathlib.Core.List.{◌++◌}
use lib.ListN.{drop}
use Rattle.lists.specs.Tabulate.{raster}
use Rattle.model.specs.Outline.{outline_result}
use Rattle.frame.specs.Framed.{neighbours}
use Rattle.kept_planes.specs.HeldRow.{Held}
use Rattle.outlines.proofs.write_rows.Given as goal

abbrev pub invariant-loop-v : goal.invariant-loop-v
invariant-loop-v l =
    (l.dst ≡ raster (λ i j. outline_result (neighbours l.frame l.plane i j)) l.frame.width l.v ++ drop (l.v * l.frame.width) l.initial.dst)
    × Held l.frame l.plane (14 + l.v) l.here × Held l.frame l.plane (15 + l.v) l.below
