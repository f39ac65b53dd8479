-- Channels of a raster ('P5 and P6'): the samples of one place stand together, of P6 red, green and blue.
use Rattle.std.specs.Prelude.{ℕ, ◌+◌, ◌*◌, ◌/◌, ◌%◌, cond, ◌&&◌, List, get_or, ltb}
use Rattle.lists.specs.Tabulate.{tabulate}

-- channel c of a raster of n places with `channels` samples each
unfoldable pub channel : ℕ → ℕ → List ℕ → ℕ → List ℕ
channel channels n raster c = tabulate (λ i. get_or raster (i * channels + c) 0) n

-- the raster of n places whose channel c has the samples of planes c
unfoldable pub interleave : ℕ → ℕ → (ℕ → List ℕ) → List ℕ
interleave channels n planes = tabulate (λ k. get_or (planes (k % channels)) (k / channels) 0) (n * channels)

-- what stands at place k once the channels below c are there
unfoldable pub placed : ℕ → ℕ → (ℕ → List ℕ) → List ℕ → ℕ → ℕ → ℕ
placed channels n planes old c k = cond (ltb k (n * channels) && ltb (k % channels) c) (get_or (planes (k % channels)) (k / channels) 0) (get_or old k 0)
