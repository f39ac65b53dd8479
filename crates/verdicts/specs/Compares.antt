-- What the tests of a verdict have shown of both stills and of the work bytes, before the first sample is compared.
use Rattle.std.specs.Prelude.{ℕ, ◌*◌, ◌≤◌}
use Rattle.exact_stages.specs.Fits.{Sides}

-- two rasters of these lengths with as many samples as the picture has, and work bytes for one channel
pub record Compares (W H channels raw received works : ℕ) : Type 0 where
  pub sides : Sides W H
  pub some : (1 ≤ channels) × (channels ≤ 3)
  pub raw-whole : W * H * channels ≤ raw
  pub received-whole : W * H * channels ≤ received
  pub room : W * H ≤ works
