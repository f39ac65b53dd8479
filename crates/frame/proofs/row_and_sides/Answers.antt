-- `frame::row_and_sides` meets its contract: the left side, the row itself, the right side. Assumes nothing.
use Rattle.frame.proofs.Rows.{row_with_sides}
use Rattle.frame.proofs.row_and_sides.Goals as goal

pub returns : goal.returns
returns c =
    let a = c.args in
    row_with_sides a.frame a.row.now c.requires.2 a.dst.now _ _ _ c.side.ensures c.copy_all.ensures c.side-2.ensures
