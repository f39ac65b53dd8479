-- A raster that is filtered keeps its length. Assumes nothing.
use Prim.Native.Nat.{ℕ, ◌*◌}
use mathlib.Core.Path.{◌≡◌}
use mathlib.Core.List.{List}
use lib.ListN.{length}
use Rattle.model.specs.Stage.{Stage}
use Rattle.channels.proofs.Interleaved.{length-interleave}
use Rattle.raster_filter.specs.FilteredRaster.{filtered_raster}

pub filtered-length : (W H c : ℕ) (ts : List Stage) (raster : List ℕ) → length (filtered_raster W H c ts raster) ≡ W * H * c
unfolding filtered_raster
filtered-length W H c ts raster = length-interleave c (W * H) _
