-- What an accepted header keeps to, and the raster behind it. Assumes nothing.
use Prim.Native.Nat.{ℕ, ◌+◌, ◌-◌, ◌*◌, ◌≤◌}
use native.Mathlib.Omega.{arith}
use mathlib.Core.Path.{◌≡◌, refl, sym}
use mathlib.Core.Bool.{true, and-eq-true_iff}
use mathlib.Core.List.{List, [], ◌∷◌}
use lib.ListN.{length, get_or, drop, length-drop}
use lib.Dec.{leb, eqb}
use borrow.Author.Tests.{leb-true, le-leb}
use Rattle.refusals.proofs.Passed.{passed}
use Rattle.header_reader.specs.Header.{header}
use Rattle.picture_sizes.specs.PictureSize.{is_side, is_channels}
use Rattle.picture_sizes.proofs.PictureSizeLaws.{side-le, channels_few, size_small}
use Rattle.answers.specs.declared.Picture.{Picture}
use Rattle.refusals.specs.declared.Refusal.{Refusal}
use Rattle.std.specs.Prelude.{Result, Ok, Err}
use Rattle.still_reader.specs.Head.{channels_of, magic_test, header_tests, announced, head_of}
use Rattle.still_reader.specs.Read.{raster_tests, with_raster, still_of}
use Rattle.still_reader.proofs.ReadLaws.{header-inside}

some_channels_are : (b : ℕ) → 1 ≤ channels_of b → is_channels (channels_of b) ≡ true
unfolding channels_of is_channels
some_channels_are b h = grind arith

never : {p : Picture} (n : Refusal) → Err n ≡ Ok p → ⊥
never n e = grind arith

same_picture : {p q : Picture} → ◌≡◌ {A = Result Picture Refusal} (Ok p) (Ok q) → p ≡ q
same_picture e = cc

-- what a header that announces a picture has passed
pub record Headed (bytes : List ℕ) (p : Picture) : Type 0 where
  pub width : is_side p.width ≡ true
  pub height : is_side p.height ≡ true
  pub channels : is_channels p.channels ≡ true
  pub ends : p.start ≡ 2 + (header (drop 2 bytes)).size
  pub inside : p.start ≤ length bytes

pub headed : (bytes : List ℕ) {p : Picture} → head_of bytes ≡ Ok p → Headed bytes p
unfolding head_of magic_test announced header_tests
headed bytes {p} e =
    let C = channels_of (get_or bytes 1 0) in
    let H = header (drop 2 bytes) in
    let said : Picture = record { width = H.width; height = H.height; channels = C; start = 2 + H.size } in
    let r = passed Err (magic_test bytes ∷ []) (announced C H) (Ok p) never e in
    let q = passed Err (header_tests H) (Ok said) (Ok p) never r.1 in
    let m = (and-eq-true_iff (eqb (get_or bytes 0 0) 80) (leb 1 C)).0 r.0.0 in
    let sides = (and-eq-true_iff (is_side H.width) (is_side H.height)).0 q.0.1.0 in
    rw (sym (same_picture q.1))
    (record {
      width = sides.0;
      height = sides.1;
      channels = some_channels_are (get_or bytes 1 0) (leb-true 1 C m.1);
      ends = refl;
      inside = omega (arith, header-inside (drop 2 bytes) q.0.0, length-drop 2 bytes);
    })

-- the samples that it announces are few
pub headed_size : (bytes : List ℕ) {p : Picture} → head_of bytes ≡ Ok p → (p.width * p.height ≤ 67108864) × (p.width * p.height * p.channels ≤ 201326592)
headed_size bytes e = let h = headed bytes e in size_small _ _ _ (side-le _ h.width).1 (side-le _ h.height).1 (channels_few _ h.channels)

pub headed_inside : (bytes : List ℕ) {p : Picture} → head_of bytes ≡ Ok p → p.start ≤ length bytes
headed_inside bytes e = (headed bytes e).inside

module _ (bytes : List ℕ) {p : Picture} where
  -- a still that is read has an accepted header, and behind it just as many bytes as that announces
  pub read_headed : still_of bytes ≡ Ok p → (head_of bytes ≡ Ok p) × (length bytes - p.start ≡ p.width * p.height * p.channels)
  unfolding still_of
  read_headed e = by_head (head_of bytes) refl e
    where
      by_head : (s : Result Picture Refusal) → head_of bytes ≡ s → with_raster (length bytes) s ≡ Ok p → (head_of bytes ≡ Ok p) × (length bytes - p.start ≡ p.width * p.height * p.channels)
      by_head (Err n) f g = absurd (never n g)
      by_head (Ok q) f g =
          let size = q.width * q.height * q.channels in
          let rest = length bytes - q.start in
          let r = passed Err (raster_tests size rest) (Ok q) (Ok p) never g in
          let short = leb-true size rest r.0.0 in
          let long = leb-true rest size r.0.1.0 in
          rw (sym (same_picture r.1)) (f, omega arith)

  -- an accepted header with its whole raster behind it, and nothing more, is read
  pub headed_read : head_of bytes ≡ Ok p → length bytes ≡ p.start + p.width * p.height * p.channels → still_of bytes ≡ Ok p
  unfolding still_of
  headed_read e f =
      let size = p.width * p.height * p.channels in
      let rest : length bytes - p.start ≡ size = omega (arith, f) in
      rw (e, rest, le-leb size size (omega arith))

-- what bounds a picture that is announced
pub ruleset limits = (headed_size, headed_inside)
