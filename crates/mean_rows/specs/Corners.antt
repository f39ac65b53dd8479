-- Four-corner differences of a summed-area table.
use Rattle.std.specs.Prelude.{ℕ, ◌+◌, ◌-◌, ◌%◌, ◌^◌, List, slice_index}

-- the four-corner difference modulo 2^32 of the window of `across` columns from u on: `upper` is the table's row of sums before the window's first row of samples,
-- `lower` the one behind its last, wherever they lie
unfoldable pub corners : List ℕ → List ℕ → ℕ → ℕ → ℕ
corners upper lower across u =
    (slice_index lower (across + u) + slice_index upper u + (2 ^ 32 - slice_index upper (across + u)) + (2 ^ 32 - slice_index lower u)) % 2 ^ 32
