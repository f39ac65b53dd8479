-- Places on an axis: an offset or an index is held 15 too large, the farthest that an offset reaches, and is then at least 0.
use Rattle.std.specs.Prelude.{ℕ, ℤ, pos, ◌-ℤ◌}

-- the offset or index at place o
unfoldable pub offset_of : ℕ → ℤ
offset_of o = pos o -ℤ pos 15
