-- What the header of a still says, whatever follows it.
use Rattle.std.specs.Prelude.{ℕ, ◌+◌, cond, ◌&&◌, List, [], ◌∷◌, get_or, drop, leb, eqb, Result, Ok, Err}
use Rattle.refusals.specs.declared.Refusal.{Refusal}
use Rattle.refusals.specs.Refusal.{Test, tested}
use Rattle.answers.specs.declared.Picture.{Picture}
use Rattle.picture_sizes.specs.PictureSize.{is_side}
use Rattle.header_reader.specs.Header.{Header, header}

-- the channels that a magic's second byte stands for: 1 for the 5 of P5, 3 for the 6 of P6, 0 for any other
unfoldable pub channels_of : ℕ → ℕ
channels_of b = cond (eqb b 53) 1 (cond (eqb b 54) 3 0)

-- the first test: P, and behind it 5 or 6. Past the end stands 0, so that a file of one byte or none fails
unfoldable pub magic_test : List ℕ → Test
magic_test bytes = (eqb (get_or bytes 0 0) 80 && leb 1 (channels_of (get_or bytes 1 0)), Refusal.Magic)

-- the tests after the magic in their order: first that the header is whole, and only then what it says: the sides, the maximum
unfoldable pub header_tests : Header → List Test
header_tests h =
    (h.whole, Refusal.Header)
    ∷ (is_side h.width && is_side h.height, Refusal.Side)
    ∷ (eqb h.maximum 255, Refusal.Maximum)
    ∷ []

-- the picture that a header after the two magic bytes announces, of c channels
unfoldable pub announced : ℕ → Header → Result Picture Refusal
announced c h = tested Err (header_tests h) (Ok (record { width = h.width; height = h.height; channels = c; start = 2 + h.size }))

-- what a still's front announces: width, height, channels and at which byte, from 0, the raster has to begin, or the first of the refusals 1 to 4
unfoldable pub head_of : List ℕ → Result Picture Refusal
head_of bytes = tested Err (magic_test bytes ∷ []) (announced (channels_of (get_or bytes 1 0)) (header (drop 2 bytes)))
