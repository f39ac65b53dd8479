-- WHAT THE CALLS WRITE READS BACK: of `write_still` the raster that it was given, of `filter_file` the filtered one. Assumes nothing.
use Prim.Native.Nat.{ℕ, ◌*◌}
use mathlib.Core.Path.{◌≡◌, sym}
use mathlib.Core.Bool.{true, and-eq-true_iff}
use mathlib.Core.List.{List, ◌++◌}
use lib.ListN.{length, take}
use lib.IntN.{ℤ}
use Rattle.std.specs.Prelude.{Result, Ok}
use Rattle.refusals.specs.declared.Refusal.{Refusal}
use Rattle.answers.specs.declared.Picture.{Picture}
use Rattle.answers.specs.declared.Filtered.{Filtered}
use Rattle.picture_sizes.specs.PictureSize.{is_side, is_channels}
use Rattle.still_reader.specs.Read.{still_of}
use Rattle.header_writer.specs.Heading.{header_bytes}
use Rattle.still_writer.specs.Write.{Writes}
use Rattle.still_writer.proofs.WriteLaws.{accepted}
use Rattle.round_trip.proofs.RoundTrip.{round_trip, round_trip_samples, picture_valid}
use Rattle.recipe.specs.Recipe.{recipe_stages}
use Rattle.room.specs.Room.{lent}
use Rattle.filter_answers.specs.declared.Limits.{Limits}
use Rattle.filter_answers.specs.FileAnswer.{samples_of}
use Rattle.filter_answers.proofs.FileAccepted.{file_accepted}
use Rattle.raster_filter.specs.FilteredRaster.{filtered_raster}
use Rattle.raster_filter.proofs.FilteredLaws.{filtered-length}
use Rattle.file_filter.specs.FiltersFile.{FiltersFile}
use Rattle.program_filter.proofs.Saved.{front_two, saved_front}
use Rattle.call_laws.specs.ReadsBack.{ReadsBack}

-- a buffer whose front is a header and its whole raster
reads_back : (W H c : ℕ) → is_side W ≡ true → is_side H ≡ true → is_channels c ≡ true → (samples : List ℕ) → length samples ≡ W * H * c
    → (buffer : List ℕ) (n : ℕ) → take n buffer ≡ header_bytes W H c ++ samples → ReadsBack buffer n W H c samples
reads_back W H c w h k samples whole buffer n e =
    let p : ◌≡◌ {A = Result Picture Refusal} (still_of (header_bytes W H c ++ samples)) (Ok (record { width = W; height = H; channels = c; start = length (header_bytes W H c) })) = round_trip W H c samples w h k whole in
    record { picture = rw e p; same = rw (e, p) (round_trip_samples W H c samples) }

-- where `write_still` gives a length n, the first n bytes of the output are the picture
pub written_reads_back : (W H c : ℕ) (raster out after : List ℕ) (n : ℕ) → Writes W H c raster out (Ok n) after → ReadsBack after n W H c raster
written_reads_back W H c raster out after n w =
    let a = accepted W H c (length raster) (length out) (sym w.answered) in
    let s = (and-eq-true_iff (is_side W) (is_side H)).0 a.sides in
    reads_back W H c s.0 s.1 a.channels raster a.raster-is after n (front_two (header_bytes W H c) raster _ after n a.length-is w.output)

-- where `filter_file` gives a picture, they are that picture with the filtered samples
pub filtered_reads_back : (m : Limits) (recipe still work work' : List ℕ) (rows rows' : List ℤ) (sums sums' out out' : List ℕ) (p : Filtered)
    → FiltersFile m recipe still work work' rows rows' sums sums' out out' (Ok p)
    → ReadsBack out' p.len p.width p.height p.channels (filtered_raster p.width p.height p.channels (recipe_stages recipe) (samples_of (still_of still) still))
filtered_reads_back m recipe still work work' rows rows' sums sums' out out' p f =
    let l = lent (length work) (length rows) (length sums) (length out) in
    let v = picture_valid still (file_accepted m recipe still l (sym f.answered)).read in
    reads_back p.width p.height p.channels v.width v.height v.channels _ (filtered-length p.width p.height p.channels (recipe_stages recipe) (samples_of (still_of still) still)) out' p.len
    (saved_front m recipe still out out' l (Ok p) f.answered f.output)
