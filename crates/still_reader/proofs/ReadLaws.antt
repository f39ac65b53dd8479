-- Laws of `read_head`: a header's numbers may be cut at 10,000, and a whole header ends inside the file. Assumes nothing.
use Prim.Native.Nat.{ℕ, ◌≤◌, ◌<◌, min}
use native.Mathlib.Omega.{arith}
use mathlib.Core.Path.{◌≡◌, sym}
use mathlib.Core.Bool.{Bool, true, false, cond}
use mathlib.Core.List.{List}
use Rattle.lists.proofs.Part.{tail_mid}
use lib.ListN.{length-drop, length, get_or, get_or-eq_default}
use lib.Dec.{eqb}
use Rattle.text.specs.Text.{is_space}
use Rattle.header_reader.specs.Header as Spec
use Rattle.header_reader.specs.Header.{field, header_of, height_field, maximum_field, header}
use Rattle.header_reader.specs.Answers.{header_answer, whole_header}
use Rattle.picture_sizes.specs.PictureSize.{is_side}
use Rattle.picture_sizes.proofs.PictureSizeLaws.{side-le}
use Rattle.still_reader.specs.Head.{header_tests, announced}
use Rattle.header_reader.specs.declared.Header.{Header}
use Rattle.refusals.specs.declared.Refusal.{Refusal}
use Rattle.std.specs.Prelude.{Option, Some, None, Result, Err}
use Rattle.std.specs.Option.{ok_or}

-- ---- a number that is cut

side_cut : (n : ℕ) → is_side (min n 10000) ≡ is_side n
unfolding is_side
side_cut n = grind arith

maximum-cut : (n : ℕ) → eqb (min n 10000) 255 ≡ eqb n 255
maximum-cut n = grind arith

-- ---- a whole header's numbers, cut

pub announced-cut : (c : ℕ) (h : Spec.Header) → h.whole ≡ true
    → announced c (whole_header (min h.width 10000) (min h.height 10000) (min h.maximum 10000) h.size) ≡ announced c h
unfolding announced header_tests whole_header
announced-cut c h e = grind (arith, side_cut, maximum-cut, side-le)

-- what an answer says of the header
pub record Whole (h : Spec.Header) (a : Header) : Type 0 where
  pub whole : h.whole ≡ true
  pub width : a.width ≡ min h.width 10000
  pub height : a.height ≡ min h.height 10000
  pub maximum : a.maximum ≡ min h.maximum 10000
  pub size : a.len ≡ h.size

-- the numbers of a whole header
numbers : Spec.Header → Header
numbers h = record { width = min h.width 10000; height = min h.height 10000; maximum = min h.maximum 10000; len = h.size }

pub numbers-whole : (h : Spec.Header) {a : Header} → header_answer h ≡ Some a → Whole h a
unfolding header_answer numbers
numbers-whole h {a} e = grind arith

pub bad_broken : (h : Spec.Header) → header_answer h ≡ None → h.whole ≡ false
unfolding header_answer numbers
bad_broken h e = grind arith

-- ---- a whole header ends inside the file

space_inside : (bytes : List ℕ) (k : ℕ) → is_space (get_or bytes k 0) ≡ true → k < length bytes
unfolding is_space
space_inside bytes k e = grind (arith, get_or-eq_default)

pub header-inside : (bytes : List ℕ) → (header bytes).whole ≡ true → (1 ≤ (header bytes).size) × ((header bytes).size ≤ length bytes)
unfolding header header_of
header-inside bytes e = (omega arith, grind (arith, space_inside))

-- ---- the magic

-- the channels that are found for its second byte
pub some_channels : (t : Bool) (n : ℕ) {k : ℕ} → cond t (Some n) None ≡ Some k → (t ≡ true) × (n ≡ k)
some_channels t n e = grind arith

-- ---- the exit where something is missing

-- what is refused where nothing was found
pub refused_for : {A : Type 0} {o : Option A} {m n : Refusal} → Err m ≡ ok_or o n → o ≡ None → m ≡ n
refused_for {A = A} {o = o} {m = m} {n = n} e f = let g : ◌≡◌ {A = Result A Refusal} (Err m) (Err n) = rw f at e in cc

-- ---- what a header's answer leads to

pub broken_announced : (c : ℕ) (h : Spec.Header) → header_answer h ≡ None → announced c h ≡ Err Refusal.Header
unfolding announced header_tests
broken_announced c h e = rw (bad_broken h e)

pub whole_announced : (c : ℕ) (h : Spec.Header) {a : Header} → header_answer h ≡ Some a → announced c h ≡ announced c (whole_header a.width a.height a.maximum a.len)
whole_announced c h e = let w = numbers-whole h e in rw (w.width, w.height, w.maximum, w.size) (sym (announced-cut c h w.whole))

-- what bounds the place of the raster
pub ruleset ends_inside = (numbers-whole, header-inside, length-drop, tail_mid)
