-- `raster_means::add_samples` meets its contract: what is stored so far, then what was there. Assumes nothing.
use Prim.Native.Nat.{◌+◌}
use lib.ListN.{get_or}
use Rattle.lists.proofs.Stored.{Stored}
use Rattle.raster_means.proofs.add_samples.Given as goal

abbrev pub invariant-loop-u : goal.invariant-loop-u
invariant-loop-u l = Stored (λ k. get_or l.initial.sums k 0 + get_or l.samples k 0) l.n l.initial.sums l.sums l.u
