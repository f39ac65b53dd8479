-- Sums over rasters that lie one behind the other.
use Rattle.std.specs.Prelude.{ℕ, ◌+◌, ◌*◌, List, get_or}
use Rattle.integers.specs.Sum.{sum}
use Rattle.lists.specs.Tabulate.{tabulate}

-- the sum of the samples at place j of the first k rasters of `size` samples
unfoldable pub place_sum : List ℕ → ℕ → ℕ → ℕ → ℕ
place_sum rasters size k j = sum (tabulate (λ i. get_or rasters (i * size + j) 0) k)
