-- The bytes of a header ('P5 and P6'): whitespace, comments, separators and decimal numbers.
use Rattle.std.specs.Prelude.{ℕ, suc, ◌+◌, ◌-◌, ◌*◌, Bool, true, false, cond, not, ◌&&◌, ◌||◌, List, [], ◌∷◌, leb, eqb}

-- the four bytes that are whitespace: blank (32), TAB (9), CR (13), LF (10)
unfoldable pub is_space : ℕ → Bool
is_space b = eqb b 32 || eqb b 9 || eqb b 13 || eqb b 10

-- how many bytes of separators stand at the front, inside a comment or not: whitespace and comments, in any number and order.
-- A comment begins at a # and ends with the next LF, which belongs to it
unfoldable pub gap : Bool → List ℕ → ℕ
gap comment [] = 0
gap true (b ∷ bytes) = suc (gap (not (eqb b 10)) bytes)
gap false (b ∷ bytes) = cond (is_space b) (suc (gap false bytes)) (cond (eqb b 35) (suc (gap true bytes)) 0)

unfoldable pub is_digit : ℕ → Bool
is_digit b = leb 48 b && leb b 57

-- the digits at the front, all there are: a number may be as long as it likes, and that it has a digit is tested where it is read
unfoldable pub digits : List ℕ → List ℕ
digits [] = []
digits (b ∷ bytes) = cond (is_digit b) (b ∷ digits bytes) []

-- the value of more digits after a number n, most significant first
unfoldable pub value_from : ℕ → List ℕ → ℕ
value_from n [] = n
value_from n (b ∷ bytes) = value_from (n * 10 + (b - 48)) bytes

-- the value of ASCII digits as a decimal number, which zeros in front do not change
unfoldable pub value : List ℕ → ℕ
value bytes = value_from 0 bytes
