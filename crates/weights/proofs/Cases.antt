-- The bounds, by computing. Assumes nothing.
use mathlib.Core.Path.{◌≡◌, refl}
use Prim.Native.Nat.{ℕ}
use mathlib.Core.Bool.{true, false}
use lib.IntN.{ℤ, pos, neg_ℤ}
use Rattle.weights.specs.Bits.{pattern, accepted, numerator_bits}

abbrev Takes : ℕ → ℤ → Type 0
Takes b z = (accepted b ≡ true) × (numerator_bits b ≡ z)

least : Takes 0x39800000 (pos 8388608)
unfolding accepted numerator_bits
least = (refl, refl)

below_least : accepted 0x397FFFFF ≡ false
unfolding accepted
below_least = refl

most : Takes 0x40800000 (pos 137438953472)
unfolding accepted numerator_bits
most = (refl, refl)

above_most : accepted 0x40800001 ≡ false
unfolding accepted
above_most = refl

zero : Takes 0 (pos 0)
unfolding accepted numerator_bits
zero = (refl, refl)

minus-zero : Takes 0x80000000 (pos 0)
unfolding accepted numerator_bits
minus-zero = (refl, refl)

minus_least : Takes 0xB9800000 (neg_ℤ (pos 8388608))
unfolding accepted numerator_bits
minus_least = (refl, refl)

minus_below_least : accepted 0xB97FFFFF ≡ false
unfolding accepted
minus_below_least = refl

minus_most : Takes 0xC0800000 (neg_ℤ (pos 137438953472))
unfolding accepted numerator_bits
minus_most = (refl, refl)

minus_above_most : accepted 0xC0800001 ≡ false
unfolding accepted
minus_above_most = refl

-- 1, -1/3 to 24 digits, and the largest below 4
one : Takes 0x3F800000 (pos 34359738368)
unfolding accepted numerator_bits
one = (refl, refl)

minus_third : Takes 0xBEAAAAAB (neg_ℤ (pos 11453246464))
unfolding accepted numerator_bits
minus_third = (refl, refl)

-- infinities, NaNs, the smallest of all, and the largest without a leading digit
refused : (accepted 0x7F800000 ≡ false) × (accepted 0xFF800000 ≡ false) × (accepted 0x7F800001 ≡ false) × (accepted 0xFFFFFFFF ≡ false) × (accepted 1 ≡ false) × (accepted 0x7FFFFF ≡ false)
unfolding accepted
refused = (refl, refl, refl, refl, refl, refl)

from_bytes : pattern 0x39 0x80 0 0 ≡ 0x39800000
from_bytes = refl
