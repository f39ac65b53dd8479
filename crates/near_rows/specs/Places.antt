-- The samples of one channel of a raster, and whether all of them are near.
use Rattle.std.specs.Prelude.{ℕ, ◌+◌, ◌*◌, ◌≤◌, ◌<◌, Bool, List, length, get_or, ℤ}
use Rattle.near_rows.specs.declared.Channel.{Channel}
use Rattle.near_rows.specs.Near.{near_clamped}
use Rattle.near_rows.specs.Everywhere.{everywhere}

-- the sample of channel k at column u, row v of a raster of width W: the samples of one place stand together
abbrev pub received_at : ℕ → ℕ → List ℕ → ℕ → ℕ → ℕ → ℕ
received_at W channels raster k u v = get_or raster ((v * W + u) * channels + k) 0

-- the same of a channel that is named with the number of all
abbrev pub sample_at : ℕ → Channel → List ℕ → ℕ → ℕ → ℕ
sample_at W ch raster u v = received_at W ch.channels raster ch.index u v

-- whether each sample in row v is near the numerator over N that stands at its place
abbrev pub row_near : ℕ → ℕ → ℕ → Channel → List ℕ → (ℕ → ℕ → ℤ) → ℕ → Bool
row_near c N W ch raster z v = everywhere W (λ u. near_clamped c N (sample_at W ch raster u v) (z u v))

-- whether each sample of the channel is, in H rows
unfoldable pub channel_near : ℕ → ℕ → ℕ → ℕ → Channel → List ℕ → (ℕ → ℕ → ℤ) → Bool
channel_near c N W H ch raster z = everywhere H (row_near c N W ch raster z)

-- that a raster of W by H places holds every sample of this channel, one of at most 3
pub record Inside (W H : ℕ) (ch : Channel) (raster : List ℕ) : Type 0 where
  pub few : ch.channels ≤ 3
  pub one : ch.index < ch.channels
  pub whole : H * W * ch.channels ≤ length raster
