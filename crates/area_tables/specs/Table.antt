-- Summed-area tables of an extended frame: r columns more on each side and s rows more above and below, all samples supplied by the frame rule.
use Rattle.std.specs.Prelude.{ℕ, ◌+◌, ◌-◌, ◌*◌, ◌%◌, ◌^◌, List}
use Rattle.integers.specs.Sum.{sum}
use Rattle.lists.specs.Tabulate.{raster}
use Rattle.frame.specs.declared.Frame.{Frame}
use Rattle.frame.specs.Padded.{padded}

-- the sample of the extended frame at column i, row j, both from 0
unfoldable pub extended : Frame → ℕ → ℕ → List ℕ → ℕ → ℕ → ℕ
extended f r s samples i j = padded f samples (15 - r + i) (15 - s + j)

-- the table's entry at column i, row j: the sum of the samples above and to the left, modulo 2^32, since the samples of a large frame add up to more
unfoldable pub entry : Frame → ℕ → ℕ → List ℕ → ℕ → ℕ → ℕ
entry f r s samples i j = sum (raster (extended f r s samples) i j) % 2 ^ 32

-- the whole table, of which a box stage holds a few rows at a time: one column and one row more than the extended frame
unfoldable pub full_table : Frame → ℕ → ℕ → List ℕ → List ℕ
full_table f r s samples = raster (entry f r s samples) (f.width + 2 * r + 1) (f.height + 2 * s + 1)
