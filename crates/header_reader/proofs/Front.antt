-- A HEADER ENDS WHERE IT ENDS: it is that of every text with the same bytes up to there. Assumes nothing.
use Prim.Native.Nat.{ℕ, ◌+◌, ◌-◌, ◌≤◌, ◌<◌}
use native.Mathlib.Omega.{arith}
use mathlib.Core.Path.{◌≡◌, sym, ap, ◌∙◌}
use mathlib.Core.Bool.{false}
use mathlib.Core.List.{List}
use lib.ListN.{get_or, drop, take}
use lib.Seq.{get_or-take}
use Rattle.text.specs.Text.{gap, digits}
use Rattle.text.proofs.Front.{drop_front, gap_front, digits_front}
use Rattle.header_reader.specs.Header.{field_after, field, header_of, height_field, maximum_field, header}

-- a field that ends before place n
pub field_front : (n : ℕ) (xs ys : List ℕ) → (field xs).size < n → take n xs ≡ take n ys → field ys ≡ field xs
unfolding field field_after
field_front n xs ys h e =
    let g = gap false xs in
    let same_gap : gap false ys ≡ g = gap_front false n xs ys (omega (arith, h)) e in
    let same_digits : digits (drop g ys) ≡ digits (drop g xs) = digits_front (n - g) (drop g xs) (drop g ys) (omega (arith, h)) (drop_front g n xs ys e) in
    rw (same_gap, same_digits)

-- a field behind the first a bytes
field_behind : (a n : ℕ) (xs ys : List ℕ) → a + (field (drop a xs)).size < n → take n xs ≡ take n ys → field (drop a ys) ≡ field (drop a xs)
field_behind a n xs ys h e = field_front (n - a) (drop a xs) (drop a ys) (omega (arith, h)) (drop_front a n xs ys e)

-- a byte before place n
pub byte_front : (i n : ℕ) (xs ys : List ℕ) → i < n → take n xs ≡ take n ys → get_or ys i 0 ≡ get_or xs i 0
byte_front i n xs ys h e = sym (get_or-take n ys i 0 h) ∙ ap (λ (l : List ℕ). get_or l i 0) (sym e) ∙ get_or-take n xs i 0 h

pub header_front : (n : ℕ) (xs ys : List ℕ) → (header xs).size ≤ n → take n xs ≡ take n ys → header ys ≡ header xs
unfolding header header_of height_field maximum_field
header_front n xs ys h e =
    let w = (field xs).size in
    let k = (field (drop w xs)).size in
    let m = (field (drop (w + k) xs)).size in
    let a : field ys ≡ field xs = field_front n xs ys (omega (arith, h)) e in
    let b : field (drop w ys) ≡ field (drop w xs) = field_behind w n xs ys (omega (arith, h)) e in
    let c : field (drop (w + k) ys) ≡ field (drop (w + k) xs) = field_behind (w + k) n xs ys (omega (arith, h)) e in
    let d : get_or ys (w + k + m) 0 ≡ get_or xs (w + k + m) 0 = byte_front (w + k + m) n xs ys (omega (arith, h)) e in
    rw (a, b, c, d)
