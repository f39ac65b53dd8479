-- `weighted_columns::finish` meets its contract: what is stored so far, then what was there. Assumes nothing.
use Prim.Native.Nat.{◌-◌, ◌^◌}
use lib.ListN.{get_or}
use lib.IntN.{pos}
use Rattle.integers.specs.Divide.{floor_div, clamp}
use Rattle.lists.proofs.Stored.{Stored}
use Rattle.weighted_columns.proofs.finish.Given as goal

abbrev pub invariant-loop-u : goal.invariant-loop-u
invariant-loop-u l = Stored (λ k. clamp 255 (floor_div (get_or l.sums k (pos 0)) (2 ^ 22))) l.n l.initial.dst l.dst l.u
