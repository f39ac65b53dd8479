-- Texts with the same n bytes in front: separators and digits that end before place n are those of both. Assumes nothing.
use Prim.Native.Nat.{ℕ, zero, suc, ◌-◌, ◌<◌}
use native.Mathlib.Nat.{not-suc-le-zero, sub-zero}
use native.Mathlib.Omega.{arith}
use mathlib.Core.Path.{◌≡◌, refl, sym, ap}
use mathlib.Core.Bool.{Bool, true, false, not}
use mathlib.Core.List.{List, [], ◌∷◌}
use lib.ListN.{length, take, drop}
use lib.Dec.{eqb}
use Rattle.text.specs.Text.{gap, digits}

-- equal heads and tails of lists that are equal
cons_alike : {x y : ℕ} {xs ys : List ℕ} → ◌≡◌ {A = List ℕ} (x ∷ xs) (y ∷ ys) → (x ≡ y) × (xs ≡ ys)
cons_alike e = (cc, cc)

-- behind the first g of them, n - g are the same
pub drop_front : (g n : ℕ) (xs ys : List ℕ) → take n xs ≡ take n ys → take (n - g) (drop g xs) ≡ take (n - g) (drop g ys)
drop_front zero n xs ys e = rw sub-zero e
drop_front (suc g) zero xs ys e = let none : zero - suc g ≡ 0 = omega arith in rw none refl
drop_front (suc g) (suc n) [] [] e = refl
drop_front (suc g) (suc n) [] (y ∷ ys) e = grind arith
drop_front (suc g) (suc n) (x ∷ xs) [] e = grind arith
drop_front (suc g) (suc n) (x ∷ xs) (y ∷ ys) e = let less : suc n - suc g ≡ n - g = omega arith in rw less (drop_front g n xs ys (cons_alike e).1)

pub gap_front : (comment : Bool) (n : ℕ) (xs ys : List ℕ) → gap comment xs < n → take n xs ≡ take n ys → gap comment ys ≡ gap comment xs
unfolding gap
gap_front comment zero xs ys h e = absurd (not-suc-le-zero h)
gap_front comment (suc n) [] [] h e = refl
gap_front comment (suc n) [] (y ∷ ys) h e = grind arith
gap_front comment (suc n) (x ∷ xs) [] h e = grind arith
gap_front true (suc n) (x ∷ xs) (y ∷ ys) h e =
    let a = cons_alike e in
    rw (sym a.0) (ap suc (gap_front (not (eqb x 10)) n xs ys (omega (arith, h)) a.1))
gap_front false (suc n) (x ∷ xs) (y ∷ ys) h e = let a = cons_alike e in rw (sym a.0) (grind (arith, gap_front false n xs ys, gap_front true n xs ys, a.1))

pub digits_front : (n : ℕ) (xs ys : List ℕ) → length (digits xs) < n → take n xs ≡ take n ys → digits ys ≡ digits xs
unfolding digits
digits_front zero xs ys h e = absurd (not-suc-le-zero h)
digits_front (suc n) [] [] h e = refl
digits_front (suc n) [] (y ∷ ys) h e = grind arith
digits_front (suc n) (x ∷ xs) [] h e = grind arith
digits_front (suc n) (x ∷ xs) (y ∷ ys) h e = let a = cons_alike e in rw (sym a.0) (grind (arith, digits_front n xs ys, a.1))
