-- What a background needs of the memory that is lent: bytes for its rasters, and 32-bit words for its labels. A lack of them is refusal 20.
use Rattle.std.specs.Prelude.{ℕ, ◌*◌, Bool, ◌&&◌, ◌||◌, leb, eqb}
use Rattle.answers.specs.declared.Held.{Held}
use Rattle.background.specs.Background.{Background, stills, samples}

-- k stills of `size` samples need k·size bytes, and two words for each: its number and its T
unfoldable pub room_for : ℕ → ℕ → ℕ → ℕ → Bool
room_for k size bytes words = leb (k * size) bytes && leb (2 * k) words

-- what is held, by value
abbrev pub held_of : Background → Held
held_of b = record { count = stills b; width = b.width; height = b.height; channels = b.channels }

-- how many samples each still held has
abbrev pub raster_size : Held → ℕ
raster_size h = h.width * h.height * h.channels

-- four numbers of 16 bits, whose product cannot overflow 64. Additions put none above 8,192 there
unfoldable pub small_numbers : Held → Bool
small_numbers h = leb h.count 65535 && leb h.width 65535 && leb h.height 65535 && leb h.channels 65535

-- the stills held have their room: there are none, or the four numbers are small and the memory is long enough
unfoldable pub held_room : Held → ℕ → ℕ → Bool
held_room h bytes words = eqb h.count 0 || (small_numbers h && room_for h.count (raster_size h) bytes words)
