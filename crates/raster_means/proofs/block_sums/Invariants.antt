-- `raster_means::block_sums` meets its contract: raster by raster. Assumes nothing.
use Prim.Native.Nat.{ℕ, ◌+◌}
use mathlib.Core.Path.{◌≡◌}
use mathlib.Core.List.{◌++◌}
use lib.ListN.{drop}
use Rattle.lists.specs.Tabulate.{tabulate}
use Rattle.raster_means.specs.Sums.{place_sum}
use Rattle.raster_means.proofs.block_sums.Given as goal

abbrev pub invariant-loop-i : goal.invariant-loop-i
invariant-loop-i l = l.sums ≡ tabulate (λ (u : ℕ). place_sum l.rasters l.size l.i (l.at + u)) l.n ++ drop l.n l.initial.sums
