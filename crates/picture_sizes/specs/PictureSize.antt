-- The sides and channels that a picture may have.
use Rattle.std.specs.Prelude.{ℕ, Bool, ◌&&◌, ◌||◌, leb, eqb}

-- a width or a height: 1 to 8,192
unfoldable pub is_side : ℕ → Bool
is_side n = leb 1 n && leb n 8192

-- a number of channels: 1, grey, or 3, RGB
unfoldable pub is_channels : ℕ → Bool
is_channels c = eqb c 1 || eqb c 3
