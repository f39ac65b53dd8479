-- A column of some rows of a plane.
use Rattle.std.specs.Prelude.{ℕ, ◌+◌, ◌<◌, List, length, get_or}
use Rattle.lists.specs.Tabulate.{tabulate}

-- its samples, in rows that are given by their starts
unfoldable pub column_of : List ℕ → List ℕ → ℕ → List ℕ
column_of plane rows c = tabulate (λ k. get_or plane (get_or rows k 0 + c) 0) (length rows)

-- all of them are in the plane
abbrev pub ColumnInside : List ℕ → List ℕ → ℕ → Type 0
ColumnInside plane rows c = (k : ℕ) → k < length rows → get_or rows k 0 + c < length plane
