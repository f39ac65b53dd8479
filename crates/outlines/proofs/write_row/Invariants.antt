-- `outlines::write_row` meets its contract: what is stored so far, then what was there. Assumes nothing.
use Prim.Native.Nat.{◌+◌, min}
use Rattle.lists.proofs.Stored.{Stored}
use Rattle.model.specs.Outline.{edge_strength}
use Rattle.outlines.specs.Square.{square_at}
use Rattle.outlines.proofs.write_row.Given as goal

abbrev pub invariant-loop-u : goal.invariant-loop-u
invariant-loop-u l = Stored (λ i. min (edge_strength (square_at l.above l.here l.below (14 + i))) 255) l.w l.initial.dst l.dst l.u
