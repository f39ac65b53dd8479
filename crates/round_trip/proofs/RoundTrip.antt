-- THE ROUND TRIP: what is written reads back as the same picture, and nothing after it. Assumes nothing.
use Prim.Native.Nat.{ℕ, zero, suc, ◌+◌, ◌-◌, ◌*◌, ◌/◌, ◌%◌, ◌≤◌, ◌<◌}
use native.Mathlib.Nat.{not-suc-le-zero}
use native.Mathlib.Omega.{arith}
use mathlib.Core.Path.{◌≡◌, refl, sym, ap, ◌∙◌}
use mathlib.Core.Bool.{true, false, cond}
use mathlib.Core.Logic.{⊎_elim}
use mathlib.Core.List.{List, [], ◌∷◌, ◌++◌, append_assoc}
use lib.ListN.{length, get_or, drop, length-append, length-drop}
use lib.Seq.{drop_at, get_or_at}
use lib.Dec.{eqb}
use borrow.Author.Tests.{le-leb, ne_eqb}
use Rattle.text.specs.Text.{is_space, gap, is_digit, digits, value_from, value}
use Rattle.header_reader.specs.Header as Spec
use Rattle.header_reader.specs.Header.{field_after, field, header_of, height_field, maximum_field, header}
use Rattle.header_reader.specs.Answers.{whole_header}
use Rattle.picture_sizes.specs.PictureSize.{is_side, is_channels}
use Rattle.still_reader.specs.Head.{channels_of, magic_test, header_tests, announced, head_of}
use Rattle.still_reader.specs.Read.{still_of}
use Rattle.still_reader.proofs.Headed.{headed, read_headed, headed_read}
use Rattle.header_writer.specs.Heading.{decimal_in, decimal, magic_line, header_bytes}
use Rattle.answers.specs.declared.Picture.{Picture}
use Rattle.std.specs.Prelude.{Ok}
use Rattle.picture_sizes.proofs.PictureSizeLaws.{channels_cases}

-- ---- decimal digits are digits, at least one, and have their number's value

abbrev Digits : List ℕ → Type 0
Digits [] = Unit {0}
Digits (d ∷ ds) = (48 ≤ d) × (d ≤ 57) × Digits ds

digits_snoc : (ds : List ℕ) (d : ℕ) → Digits ds → 48 ≤ d → d ≤ 57 → Digits (ds ++ (d ∷ []))
digits_snoc [] d p h k = (h, k, tt)
digits_snoc (e ∷ ds) d p h k = (p.0, p.1, digits_snoc ds d p.2 h k)

value_snoc : (n : ℕ) (ds : List ℕ) (d : ℕ) → value_from n (ds ++ (d ∷ [])) ≡ value_from n ds * 10 + (d - 48)
unfolding value_from
value_snoc n [] d = refl
value_snoc n (e ∷ ds) d = value_snoc (n * 10 + (e - 48)) ds d

-- what is shown of the digits of n
record Right (ds : List ℕ) (n : ℕ) : Type 0 where
  all : Digits ds
  some : 1 ≤ length ds
  worth : value ds ≡ n

right_more : (ds : List ℕ) (n : ℕ) → Right ds (n / 10) → Right (ds ++ ((48 + n % 10) ∷ [])) n
unfolding value
right_more ds n r = record {
  all = digits_snoc ds (48 + n % 10) r.all (omega arith) (omega arith);
  some = rw length-append (omega arith);
  worth = rw (value_snoc 0 ds (48 + n % 10)) (omega (arith, r.worth));
}

right_in : (s n : ℕ) → n < s → Right (decimal_in s n) n
unfolding decimal_in value value_from
right_in zero n h = absurd (not-suc-le-zero h)
right_in (suc s) n h = grind (arith, right_in s (n / 10), right_more)

right : (n : ℕ) → Right (decimal n) n
unfolding decimal
right n = right_in (suc n) n (omega arith)

-- ---- a field that was written

is_digit_lem : (d : ℕ) → 48 ≤ d → d ≤ 57 → is_digit d ≡ true
unfolding is_digit
is_digit_lem d h k = grind arith

digits_append : (ds : List ℕ) (b : ℕ) (rest : List ℕ) → Digits ds → is_digit b ≡ false → digits (ds ++ (b ∷ rest)) ≡ ds
unfolding digits
digits_append [] b rest p e = rw e
digits_append (d ∷ ds) b rest p e = rw (is_digit_lem d p.0 p.1) (ap (λ (l : List ℕ). d ∷ l) (digits_append ds b rest p.2 e))

no_gap : (ds rest : List ℕ) → Digits ds → 1 ≤ length ds → gap false (ds ++ rest) ≡ 0
unfolding gap is_space
no_gap [] rest p h = absurd (not-suc-le-zero h)
no_gap (d ∷ ds) rest p h =
    let a = p.0 in
    let b = p.1 in
    rw (ne_eqb d 32 (λ e. omega arith), ne_eqb d 9 (λ e. omega arith), ne_eqb d 13 (λ e. omega arith), ne_eqb d 10 (λ e. omega arith), ne_eqb d 35 (λ e. omega arith))

abbrev whole_field : ℕ → Spec.Field
whole_field n = record { whole = true; number = n; size = 1 + length (decimal n) }

gap-one : (sep : ℕ) (bytes : List ℕ) → is_space sep ≡ true → gap false bytes ≡ 0 → gap false (sep ∷ bytes) ≡ 1
unfolding gap
gap-one sep bytes e f = rw e (ap suc f)

field-written : (sep n b : ℕ) (rest : List ℕ) → is_space sep ≡ true → is_digit b ≡ false → field (sep ∷ (decimal n ++ (b ∷ rest))) ≡ whole_field n
unfolding field field_after
field-written sep n b rest e f =
    let r = right n in
    rw (gap-one sep (decimal n ++ (b ∷ rest)) e (no_gap (decimal n) (b ∷ rest) r.all r.some), digits_append (decimal n) b rest r.all f, le-leb 1 (length (decimal n)) r.some, r.worth)

-- ---- a header that was written

-- everything after the two magic bytes
abbrev after : ℕ → ℕ → List ℕ → List ℕ
after w h raster = 10 ∷ (decimal w ++ (32 ∷ (decimal h ++ (10 ∷ (decimal 255 ++ (10 ∷ raster))))))

module _ (w h : ℕ) (raster : List ℕ) where
  second : List ℕ
  second = 32 ∷ (decimal h ++ (10 ∷ (decimal 255 ++ (10 ∷ raster))))

  third : List ℕ
  third = 10 ∷ (decimal 255 ++ (10 ∷ raster))

  drop_second : drop (1 + length (decimal w)) (after w h raster) ≡ second
  unfolding second
  drop_second = drop_at (10 ∷ decimal w) (32 ∷ (decimal h ++ (10 ∷ (decimal 255 ++ (10 ∷ raster))))) (1 + length (decimal w)) (omega arith)

  drop_third : drop (1 + length (decimal w) + (1 + length (decimal h))) (after w h raster) ≡ third
  unfolding third
  drop_third =
      rw (sym (append_assoc (10 ∷ decimal w) (32 ∷ decimal h) (10 ∷ (decimal 255 ++ (10 ∷ raster)))))
      (drop_at ((10 ∷ decimal w) ++ (32 ∷ decimal h)) (10 ∷ (decimal 255 ++ (10 ∷ raster))) (1 + length (decimal w) + (1 + length (decimal h))) (rw length-append (omega arith)))

  last_byte : get_or (after w h raster) (1 + length (decimal w) + (1 + length (decimal h)) + (1 + length (decimal 255))) 0 ≡ 10
  last_byte =
      rw (sym (append_assoc (10 ∷ decimal w) (32 ∷ decimal h) (10 ∷ (decimal 255 ++ (10 ∷ raster)))), sym (append_assoc ((10 ∷ decimal w) ++ (32 ∷ decimal h)) (10 ∷ decimal 255) (10 ∷ raster)))
      (get_or_at ((10 ∷ decimal w) ++ (32 ∷ decimal h) ++ (10 ∷ decimal 255)) 10 raster 0 (1 + length (decimal w) + (1 + length (decimal h)) + (1 + length (decimal 255))) (rw (length-append, length-append) (omega arith)))

  size : ℕ
  size = 1 + length (decimal w) + (1 + length (decimal h)) + (1 + length (decimal 255)) + 1

  first_field : field (after w h raster) ≡ whole_field w
  unfolding is_space is_digit
  first_field = field-written 10 w 32 _ refl refl

  header-written : header (after w h raster) ≡ whole_header w h 255 size
  unfolding header header_of height_field maximum_field whole_header size second third is_space is_digit
  header-written =
      rw (first_field, drop_second, field-written 32 h 10 (decimal 255 ++ (10 ∷ raster)) refl refl, drop_third, field-written 10 255 10 raster refl refl, last_byte)

-- ---- the file that was written

maximum-digits : decimal 255 ≡ 50 ∷ 53 ∷ 53 ∷ []
unfolding decimal decimal_in
maximum-digits = refl

header_is : (w h c : ℕ) (raster : List ℕ) → header_bytes w h c ++ raster ≡ 80 ∷ cond (eqb c 1) 53 54 ∷ after w h raster
unfolding header_bytes magic_line
header_is w h c raster = rw maximum-digits (simp append_assoc)

header-size : (w h c : ℕ) (raster : List ℕ) → length (header_bytes w h c) ≡ 2 + size w h raster
unfolding header_bytes magic_line size
header-size w h c raster = rw maximum-digits (simp length-append (omega arith))

-- the magic says the channels
magic-back : (c : ℕ) → is_channels c ≡ true → channels_of (cond (eqb c 1) 53 54) ≡ c
unfolding channels_of
magic-back c e = ⊎_elim (λ f. rw f) (λ f. rw f) (channels_cases c e)

-- a picture of c channels whose raster begins at `start`
abbrev beginning : ℕ → ℕ → ℕ → ℕ → Picture
beginning w h c start = record { width = w; height = h; channels = c; start = start }

-- the picture that is written: its raster begins behind the header
abbrev pub written_picture : ℕ → ℕ → ℕ → Picture
written_picture w h c = record { width = w; height = h; channels = c; start = length (header_bytes w h c) }

-- a whole header announces its picture
picture-announced : (w h c n : ℕ) → is_side w ≡ true → is_side h ≡ true → announced c (whole_header w h 255 n) ≡ Ok (beginning w h c (2 + n))
unfolding announced header_tests whole_header
picture-announced w h c n a b = rw (a, b)

module _ (w h c : ℕ) (raster : List ℕ) (a : is_side w ≡ true) (b : is_side h ≡ true) (d : is_channels c ≡ true) (e : length raster ≡ w * h * c) where
  some-channels : 1 ≤ c
  some-channels = ⊎_elim (λ f. omega arith) (λ f. omega arith) (channels_cases c d)

  head-back : head_of (header_bytes w h c ++ raster) ≡ Ok (written_picture w h c)
  unfolding head_of magic_test
  head-back =
      rw (header_is w h c raster, magic-back c d, le-leb 1 c some-channels, header-written w h raster)
      (picture-announced w h c (size w h raster) a b ∙ ap (λ (n : ℕ). Ok (beginning w h c n)) (sym (header-size w h c raster)))

  -- it reads back with the same width, height and channels
  pub round_trip : still_of (header_bytes w h c ++ raster) ≡ Ok (written_picture w h c)
  round_trip = headed_read (header_bytes w h c ++ raster) head-back (length-append (header_bytes w h c) raster ∙ rw e)

-- with the same samples, and nothing after them
pub round_trip_samples : (w h c : ℕ) (raster : List ℕ) → drop (length (header_bytes w h c)) (header_bytes w h c ++ raster) ≡ raster
round_trip_samples w h c raster = drop_at (header_bytes w h c) raster (length (header_bytes w h c)) refl

-- ---- what is read, written again

-- what a picture that was read has passed
pub record Valid (bytes : List ℕ) (p : Picture) : Type 0 where
  pub width : is_side p.width ≡ true
  pub height : is_side p.height ≡ true
  pub channels : is_channels p.channels ≡ true
  pub raster : length (drop p.start bytes) ≡ p.width * p.height * p.channels

pub picture_valid : (bytes : List ℕ) {p : Picture} → still_of bytes ≡ Ok p → Valid bytes p
picture_valid bytes {p} e =
    let r = read_headed bytes e in
    let k = headed bytes r.0 in
    record { width = k.width; height = k.height; channels = k.channels; raster = length-drop p.start bytes ∙ r.1 }

-- what `read_still` accepts, written again, reads back as the same picture
pub written_again : (bytes : List ℕ) {p : Picture} → still_of bytes ≡ Ok p
    → still_of (header_bytes p.width p.height p.channels ++ drop p.start bytes) ≡ Ok (written_picture p.width p.height p.channels)
written_again bytes {p} e = let v = picture_valid bytes e in round_trip p.width p.height p.channels (drop p.start bytes) v.width v.height v.channels v.raster
