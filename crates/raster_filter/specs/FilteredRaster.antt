-- A raster that is filtered.
use Rattle.std.specs.Prelude.{ℕ, ◌*◌, List}
use Rattle.model.specs.Stage.{Stage, written}
use Rattle.channels.specs.Channel.{channel, interleave}

-- the filtered raster: its channel k is the written chain of channel k alone, through all stages
unfoldable pub filtered_raster : ℕ → ℕ → ℕ → List Stage → List ℕ → List ℕ
filtered_raster W H c ts raster = interleave c (W * H) (λ k. written W H ts (channel c (W * H) raster k))
