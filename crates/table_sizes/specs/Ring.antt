-- The ring of rows in which a box stage holds the running sums of its extended frame.
use Rattle.std.specs.Prelude.{ℕ, ◌+◌, ◌*◌, ◌%◌}

-- a row of sums has one entry more than a frame that is extended by r has columns
abbrev pub table_width : ℕ → ℕ → ℕ
table_width W r = W + 2 * r + 1

-- the rows that are held: both edges of a window that reaches s down, and all between them
abbrev pub ring_rows : ℕ → ℕ
ring_rows s = 2 * s + 2

-- the entries of all of them
abbrev pub ring_size : ℕ → ℕ → ℕ → ℕ
ring_size W r s = ring_rows s * table_width W r

-- where row y of the table starts: in place y modulo 2s+2, counted in rows from the front
abbrev pub row_start : ℕ → ℕ → ℕ → ℕ → ℕ
row_start W r s y = (y % ring_rows s) * table_width W r
