-- Weights as values of the code.
use Rattle.std.specs.Prelude.{Bool, true, false, cond, ℤ, Float}
use Rattle.std.specs.Float.{binary32}
use Rattle.std.specs.Float.Ieee.{of_bits, to_bits, eq, le, neg}
use Rattle.weights.specs.Bits.{accepted, numerator_bits}
use Rattle.weights.specs.declared.Weight.{Weight}
use Rattle.weights.specs.declared.Weight.TheVariants.{Whole, Real}

-- a weight that can be used: a real one has a pattern that is accepted
abbrev pub usable : Weight → Bool
usable (Whole a) = true
usable (Real x) = accepted (to_bits binary32 x)

-- its numerator: of a real one over 2^35, by its bits
abbrev pub numerator_of : Weight → ℤ
numerator_of (Whole a) = a
numerator_of (Real x) = numerator_bits (to_bits binary32 x)

-- the tests as the code makes them, in f32
unfoldable pub in_range : Float → Bool
in_range x =
    cond (eq x (of_bits binary32 0)) true
    (cond (le (of_bits binary32 0x39800000) x) (le x (of_bits binary32 0x40800000))
    (cond (le x (neg (of_bits binary32 0x39800000))) (le (neg (of_bits binary32 0x40800000)) x) false))
