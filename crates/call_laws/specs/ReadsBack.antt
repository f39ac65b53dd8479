-- A buffer whose front is a still.
use Rattle.std.specs.Prelude.{ℕ, ◌≡◌, List, take, length, Ok}
use Rattle.still_reader.specs.Read.{still_of}
use Rattle.header_writer.specs.Heading.{header_bytes}
use Rattle.filter_answers.specs.FileAnswer.{samples_of}

-- the first n bytes read as a still of this width, height and number of channels, and its raster is these samples and nothing more
pub record ReadsBack (buffer : List ℕ) (n W H c : ℕ) (samples : List ℕ) : Type 0 where
  pub picture : still_of (take n buffer) ≡ Ok (record { width = W; height = H; channels = c; start = length (header_bytes W H c) })
  pub same : samples_of (still_of (take n buffer)) (take n buffer) ≡ samples
