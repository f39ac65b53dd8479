-- What passing the tests of `write_still` shows, and where the raster lies. Assumes nothing.
use Prim.Native.Nat.{ℕ, ◌+◌, ◌*◌, ◌-◌, ◌≤◌}
use native.Mathlib.Nat.{le_antisymm}
use native.Mathlib.Omega.{arith}
use mathlib.Core.Path.{◌≡◌, sym, ◌∙◌}
use mathlib.Core.Bool.{true, ◌&&◌}
use mathlib.Core.List.{List, ◌++◌}
use lib.ListN.{length, take, drop}
use lib.Seq.{take-length}
use borrow.Author.Tests.{leb-true}
use Rattle.lists.proofs.Part.{behind}
use Rattle.refusals.proofs.Passed.{passed}
use Rattle.picture_sizes.specs.PictureSize.{is_side, is_channels}
use Rattle.picture_sizes.proofs.PictureSizeLaws.{sides_le, side-le, size_small, channels_few}
use Rattle.header_writer.proofs.HeadingLaws.{header-length}
use Rattle.header_writer.specs.Heading.{header_bytes}
use Rattle.still_writer.specs.Write.{write_tests, written_of}
use Rattle.std.specs.Prelude.{Result, Ok, Err}
use Rattle.refusals.specs.declared.Refusal.{Refusal}

-- what an answer with a length has passed
pub record Accepted (w h c raster room n : ℕ) : Type 0 where
  pub width : w ≤ 8192
  pub height : h ≤ 8192
  pub sides : (is_side w && is_side h) ≡ true
  pub channels : is_channels c ≡ true
  pub raster-is : raster ≡ w * h * c
  pub fits : n ≤ room
  pub length-is : n ≡ length (header_bytes w h c) + raster

pub accepted : (w h c raster room : ℕ) {n : ℕ} → written_of w h c raster room ≡ Ok n → Accepted w h c raster room n
unfolding written_of write_tests
accepted w h c raster room {n} e =
    let size = w * h * c in
    let total = length (header_bytes w h c) + size in
    let never : (r : Refusal) → ◌≡◌ {A = Result ℕ Refusal} (Err r) (Ok n) → ⊥ = λ r f. let z : ◌≡◌ {A = ℕ} 0 1 = cc in omega arith in
    let p = passed Err (write_tests w h c raster room) (Ok total) (Ok n) never e in
    let s = sides_le w h p.0.1.0 in
    let same : total ≡ n = let q = p.1 in cc in
    let short = leb-true size raster p.0.1.1.0 in
    let long = leb-true raster size p.0.1.1.1.0 in
    let room-enough = leb-true total room p.0.1.1.1.1.0 in
    record {
      width = s.0.1;
      height = s.1.1;
      sides = p.0.1.0;
      channels = p.0.0;
      raster-is = le_antisymm long short;
      fits = omega arith;
      length-is = omega arith;
    }

-- a header in front, and a raster that was copied into the part behind it
pub raster_behind : (head raster out one part : List ℕ) (start : ℕ) → start ≡ length head → one ≡ head ++ drop start out
    → part ≡ take (length raster) raster ++ drop (length raster) (take (length one - start) (drop start one))
    → take start one ++ (part ++ drop (length one - start) (drop start one)) ≡ head ++ (raster ++ drop (length head + length raster) out)
raster_behind head raster out one part start e eo ep = behind head raster out one part start (length raster) (sym e) eo (rw (take-length raster) at ep) ∙ rw e

-- what bounds the file that is written
pub ruleset few = (side-le, size_small, channels_few, header-length)
