-- What `read_still` answers.
use Rattle.std.specs.Prelude.{ℕ, ◌-◌, ◌*◌, List, [], ◌∷◌, length, leb, Result, Ok, Err}
use Rattle.refusals.specs.declared.Refusal.{Refusal}
use Rattle.refusals.specs.Refusal.{Test, tested}
use Rattle.answers.specs.declared.Picture.{Picture}
use Rattle.still_reader.specs.Head.{head_of}

-- the tests of a raster of `rest` bytes, where `size` samples are announced: too few, too many
abbrev pub raster_tests : ℕ → ℕ → List Test
raster_tests size rest =
    (leb size rest, Refusal.RasterShort)
    ∷ (leb rest size, Refusal.RasterLong)
    ∷ []

-- what is announced, in a file of `total` bytes: nothing may follow the raster, not even a second picture
abbrev pub with_raster : ℕ → Result Picture Refusal → Result Picture Refusal
with_raster total (Err refusal) = Err refusal
with_raster total (Ok p) = tested Err (raster_tests (p.width * p.height * p.channels) (total - p.start)) (Ok p)

-- the answer of `read_still`: width, height, channels and at which byte, from 0, the raster begins, or the first refusal
unfoldable pub still_of : List ℕ → Result Picture Refusal
still_of bytes = with_raster (length bytes) (head_of bytes)
