-- `row_sums::finish` meets its contract: what is stored so far, then what was there. Assumes nothing.

use lib.ListN.{get_or}
use lib.IntN.{pos}
use Rattle.integers.specs.Divide.{floor_div}
use Rattle.lists.proofs.Stored.{Stored}
use Rattle.row_sums.proofs.finish.Given as goal

abbrev pub invariant-loop-u : goal.invariant-loop-u
invariant-loop-u l = Stored (λ k. floor_div (get_or l.initial.sums k (pos 0)) 1024) l.n l.initial.sums l.sums l.u
