-- Worked examples of a window's rows and columns, on a frame of 2 by 2 samples: 10 30 above 50 70, with border value 9. Column 0 and row 0 are at place 15.
-- A row names the case, what the definitions give, and what they should give. The theorem at the end goes over all rows.
use Rattle.std.specs.Prelude.{ℕ, List, [], ◌∷◌, map, ◌≡◌, refl}
use Prim.Native.String.{String}
use Rattle.integers.specs.Divide.{modulo}
use Rattle.lists.specs.Count.{count}
use Rattle.lists.specs.Tabulate.{tabulate}
use Rattle.model.specs.Border.{supply, inside, closest, folded}
use Rattle.stage_values.specs.declared.Border.{Border}
use Rattle.stage_values.specs.declared.Border.TheVariants.{Constant, Nearest, Mirror, Wrap}
use Rattle.stage_values.specs.Place.{offset_of}
use Rattle.frame.specs.declared.Frame.{Frame}
use Rattle.histograms.specs.Histogram.{at_level, below_level}
use Rattle.histograms.specs.Column.{column_of}
use Rattle.window_columns.specs.Rows.{start_of, row_starts}
use Rattle.window_columns.specs.Columns.{column_pick, column_in, side_by_side}

pub record Example : Type 0 where
  pub name : String
  pub found : List ℕ
  pub expected : List ℕ

unfoldable pub row : String → List ℕ → List ℕ → Example
row n f e = record { name = n; found = f; expected = e }

unfoldable pub framed : Border → Frame
framed b = record { width = 2; height = 2; border = b; value = 9 }

unfoldable pub samples : List ℕ
samples = 10 ∷ 30 ∷ 50 ∷ 70 ∷ []

-- three rows around row 0
unfoldable pub rows : Border → List ℕ
rows b = row_starts (framed b) 14 3

-- their column at a place
unfoldable pub column : Border → ℕ → List ℕ
column b = column_in (framed b) samples (rows b) 3

-- five columns side by side, and how many of their samples are 10, 30, 50, 70 and 9
unfoldable pub levels : Border → ℕ → List ℕ
levels b x = map (λ g. at_level g (side_by_side (column b) x 5)) (10 ∷ 30 ∷ 50 ∷ 70 ∷ 9 ∷ [])

unfoldable pub examples : List Example
examples =
    row "a row outside a constant border has no start" (rows Constant) (0 ∷ 2 ∷ [])
    ∷ row "nearest: row 0 once more" (rows Nearest) (0 ∷ 0 ∷ 2 ∷ [])
    ∷ row "wrap: the last row first" (rows Wrap) (2 ∷ 0 ∷ 2 ∷ [])
    ∷ row "a column inside: its samples, then the border value for each row outside" (column Constant 16) (30 ∷ 70 ∷ 9 ∷ [])
    ∷ row "a column outside a constant border: the border value in each row" (column Constant 14) (9 ∷ 9 ∷ 9 ∷ [])
    ∷ row "a column that is mirrored" (column Mirror 17) (30 ∷ 30 ∷ 70 ∷ [])
    ∷ row "wrap: column 0 is in the window three times" (levels Wrap 13) (3 ∷ 2 ∷ 6 ∷ 4 ∷ 0 ∷ [])
    ∷ row "one place on: it has left once, and column 1 has entered a third time" (levels Wrap 14) (2 ∷ 3 ∷ 4 ∷ 6 ∷ 0 ∷ [])
    ∷ row "constant: two columns inside of five" (levels Constant 13) (1 ∷ 1 ∷ 1 ∷ 1 ∷ 11 ∷ [])
    ∷ row "how many of a column are below a level" (below_level 70 (column Nearest 16) ∷ []) (2 ∷ [])
    ∷ []

-- every definition that an example runs through, opened by one name
opened : Unit {0}
unfolding row framed samples rows column levels examples start_of row_starts column_pick side_by_side column_of tabulate count supply inside closest folded modulo offset_of
opened = tt

-- THE WORKED EXAMPLES HOLD, by computation
pub examples_hold : map (λ e. e.found) examples ≡ map (λ e. e.expected) examples
unfolding opened
examples_hold = refl
