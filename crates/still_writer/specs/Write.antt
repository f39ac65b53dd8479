-- What `write_still` answers and writes.
use Rattle.std.specs.Prelude.{ℕ, ◌+◌, ◌*◌, ◌≡◌, ◌&&◌, List, [], ◌∷◌, ◌++◌, length, drop, leb, Result, Ok, Err}
use Rattle.refusals.specs.declared.Refusal.{Refusal}
use Rattle.refusals.specs.Refusal.{Test, tested}
use Rattle.picture_sizes.specs.PictureSize.{is_side, is_channels}
use Rattle.header_writer.specs.Heading.{header_bytes}

-- the tests in their order, for a raster and an output of so many bytes: channels (19), sides (3), too few samples (5), too many (6), room for the file (20)
unfoldable pub write_tests : ℕ → ℕ → ℕ → ℕ → ℕ → List Test
write_tests w h c raster room =
    (is_channels c, Refusal.Channels)
    ∷ (is_side w && is_side h, Refusal.Side)
    ∷ (leb (w * h * c) raster, Refusal.RasterShort)
    ∷ (leb raster (w * h * c), Refusal.RasterLong)
    ∷ (leb (length (header_bytes w h c) + w * h * c) room, Refusal.Room)
    ∷ []

-- how many bytes are written, or the first refusal
unfoldable pub written_of : ℕ → ℕ → ℕ → ℕ → ℕ → Result ℕ Refusal
written_of w h c raster room = tested Err (write_tests w h c raster room) (Ok (length (header_bytes w h c) + w * h * c))

-- the output after an answer: as before a refusal, else header, raster and the old tail
abbrev pub output_of : Result ℕ Refusal → List ℕ → List ℕ → List ℕ → List ℕ
output_of (Err refusal) header raster out = out
output_of (Ok n) header raster out = header ++ (raster ++ drop n out)

-- what `write_still` ensures
pub record Writes (w h c : ℕ) (raster out : List ℕ) (answer : Result ℕ Refusal) (after : List ℕ) : Type 0 where
  pub answered : answer ≡ written_of w h c (length raster) (length out)
  pub output : after ≡ output_of answer (header_bytes w h c) raster out
