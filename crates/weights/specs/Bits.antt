-- A weight that arrives as four bytes of IEEE 754 binary32: which patterns are accepted, and the number that each stands for.
-- The number is the pattern's value, unrounded, with 2^35 as its denominator; either zero counts as 0. Only whole numbers: nothing here names a float.
use Rattle.std.specs.Prelude.{ℕ, ◌+◌, ◌-◌, ◌*◌, ◌/◌, ◌%◌, ◌^◌, Bool, not, ◌&&◌, ◌||◌, cond, ℤ, pos, neg_ℤ, leb, eqb}

-- four bytes, the highest first
abbrev pub pattern : ℕ → ℕ → ℕ → ℕ → ℕ
pattern b0 b1 b2 b3 = ((b0 * 256 + b1) * 256 + b2) * 256 + b3

-- the three fields of a pattern: 1 bit, 8 bits, 23 bits
abbrev pub negative : ℕ → Bool
negative b = leb (2 ^ 31) b

abbrev pub exponent : ℕ → ℕ
exponent b = b % 2 ^ 31 / 2 ^ 23

abbrev pub fraction : ℕ → ℕ
fraction b = b % 2 ^ 23

-- The magnitude, (2 ^ 23 + fraction) * 2 ^ (exponent - 150), counted in units of 2 ^ -149, binary32's smallest value. Where the exponent's field is 0
-- there is no leading digit, and the field counts as 1.
unfoldable pub units : ℕ → ℕ
units b = cond (eqb (exponent b) 0) (fraction b) ((2 ^ 23 + fraction b) * 2 ^ (exponent b - 1))

-- The weights that a recipe may have: neither an infinity nor a NaN; and 0 of either sign, or a size from 2 ^ -12, which is 2 ^ 137 units, to 4, which is 2 ^ 151 units.
unfoldable pub accepted : ℕ → Bool
unfolding units
accepted b = not (eqb (exponent b) 255) && (eqb (units b) 0 || (leb (2 ^ 137) (units b) && leb (units b) (2 ^ 151)))

-- The value's numerator over 2 ^ 35: of the units of 2 ^ -149, 2 ^ 114 make one.
unfoldable pub numerator_bits : ℕ → ℤ
unfolding units
numerator_bits b = cond (negative b) (neg_ℤ (pos (units b / 2 ^ 114))) (pos (units b / 2 ^ 114))
