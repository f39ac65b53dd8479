-- The sum of a window, by its columns.
use Rattle.std.specs.Prelude.{ℕ, ◌+◌, ◌-◌, ◌*◌, List, get_or, ℤ, pos}
use Rattle.integers.specs.Sum.{sum, sumℤ}
use Rattle.lists.specs.Tabulate.{tabulate}
use Rattle.frame.specs.declared.Frame.{Frame}
use Rattle.frame.specs.Padded.{padded}

-- the sum of the 2s+1 samples that a window of row v has in the column at place x
unfoldable pub column_sum : Frame → List ℕ → ℕ → ℕ → ℕ → ℤ
column_sum f samples s x v = pos (sum (tabulate (λ j. padded f samples x (15 - s + v + j)) (2 * s + 1)))

-- the sum of n entries, from place u on
unfoldable pub run_sum : List ℤ → ℕ → ℕ → ℤ
run_sum columns n u = sumℤ (tabulate (λ i. get_or columns (u + i) (pos 0)) n)
