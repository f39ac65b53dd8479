-- `raster_means::block_means` meets its contract: what is stored so far, then what was there. Assumes nothing.
use lib.ListN.{get_or}
use Rattle.lists.proofs.Stored.{Stored}
use Rattle.integers.specs.Divide.{nearest}
use Rattle.raster_means.proofs.block_means.Given as goal

abbrev pub invariant-loop-u : goal.invariant-loop-u
invariant-loop-u l = Stored (λ i. nearest (get_or l.sums i 0) l.k) l.n l.initial.out l.out l.u
