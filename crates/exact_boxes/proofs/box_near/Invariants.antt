-- `exact_boxes::box_near` meets its contract: all rows so far are near, and the first that is not decides. Assumes nothing.
use Prim.Native.Nat.{ℕ}
use mathlib.Core.List.{List}
use lib.IntN.{ℤ}
use Rattle.model.specs.Stage.{box}
use Rattle.model.specs.Exact.{numerator}
use Rattle.frame.specs.declared.Frame.{Frame}
use Rattle.frame.specs.Framed.{neighbours}
use Rattle.near_rows.proofs.RowLaws.{RowsNear}
use Rattle.exact_boxes.proofs.RunLaws.{Columns}
use Rattle.exact_boxes.proofs.box_near.Given as goal

-- the numerator at column u, row v
abbrev pub at : Frame → ℕ → ℕ → List ℕ → ℕ → ℕ → ℤ
at frame r s plane u v = numerator (box r s) (neighbours frame plane u v)

abbrev pub invariant-loop-v : goal.invariant-loop-v
invariant-loop-v l = Columns l.frame l.plane l.s l.sums l.v
    × RowsNear l.c l.n l.w l.h l.channel l.received (at l.frame l.r l.s l.plane) l.v
