-- `raster_means::mean_raster` meets its contract: block by block. Assumes nothing.
use Rattle.lists.proofs.Stored.{Stored}
use Rattle.integers.specs.Divide.{nearest}
use Rattle.raster_means.specs.Sums.{place_sum}
use Rattle.raster_means.proofs.mean_raster.Given as goal

abbrev pub invariant-loop-at : goal.invariant-loop-at
invariant-loop-at l = Stored (λ j. nearest (place_sum l.rasters l.size l.k j) l.k) l.size l.initial.out l.out l.at
