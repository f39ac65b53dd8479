-- Squares of 3 by 3 samples in three rows.
use Rattle.std.specs.Prelude.{ℕ, List, ◌++◌, take, drop}

-- the nine samples whose left column is u, row by row
unfoldable pub square_at : List ℕ → List ℕ → List ℕ → ℕ → List ℕ
square_at above here below u = take 3 (drop u above) ++ take 3 (drop u here) ++ take 3 (drop u below)
