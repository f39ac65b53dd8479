-- The fields of kinds 1 and 2 ('Recipe bytes'), one run at a time: sizes, the offsets of an axis, weights.
use Rattle.std.specs.Prelude.{ℕ, zero, suc, ◌*◌, ◌^◌, Bool, true, false, cond, ◌&&◌, List, [], ◌∷◌, ◌++◌, drop, leb, ℤ, pos, neg_ℤ, ◌+ℤ◌}
use Rattle.std.specs.Int.Signed.{le_z}
use Rattle.refusals.specs.declared.Refusal.TheVariants as Refusal
use Rattle.refusals.specs.Refusal.{Test}
use Rattle.weights.specs.Bits.{accepted}
use Rattle.recipe_bytes.specs.Bytes.{at, word, signed8, bits, there, field}

-- whether an axis may have n taps
unfoldable pub is_count : ℕ → Bool
is_count n = leb 1 n && leb n 31

-- the sizes: both numbers of taps and, for ratios, a D across and a D down of two bytes each, above 0. How many bytes; the D at byte k, 2^35 for reals; the tests
unfoldable pub sizes_length : Bool → ℕ
sizes_length real = cond real 2 6

unfoldable pub divisor_at : Bool → ℕ → List ℕ → ℕ
divisor_at real k b = cond real (2 ^ 35) (word b k)

unfoldable pub size_tests : Bool → List ℕ → List Test
size_tests true b = field b 1 (is_count (at b 0)) Refusal.Count ++ field b 2 (is_count (at b 1)) Refusal.Count
size_tests false b =
    field b 1 (is_count (at b 0)) Refusal.Count
    ++ field b 2 (is_count (at b 1)) Refusal.Count
    ++ field b 4 (leb 1 (word b 2)) Refusal.Count
    ++ field b 6 (leb 1 (word b 4)) Refusal.Count

-- the tests of k offsets: the first is at least `least`, every other is above the one before it, and none is over 15
unfoldable pub offset_tests : ℤ → ℕ → List ℕ → List Test
offset_tests least zero b = []
offset_tests least (suc k) b =
    there 1 b
    ∷ (le_z least (signed8 (at b 0)) && le_z (signed8 (at b 0)) (pos 15), Refusal.Offset)
    ∷ offset_tests (signed8 (at b 0) +ℤ pos 1) k (drop 1 b)

-- the offsets of one axis: none is below -15
unfoldable pub axis_tests : ℕ → List ℕ → List Test
axis_tests k b = offset_tests (neg_ℤ (pos 15)) k b

-- the tests of k real weights, four bytes each: which are accepted is said in crate `weights`
unfoldable pub real_tests : ℕ → List ℕ → List Test
real_tests zero b = []
real_tests (suc k) b = there 4 b ∷ (accepted (bits b 0), Refusal.RealWeight) ∷ real_tests k (drop 4 b)

-- the tests of k weights: those of ratios, two bytes each, only have to be there
unfoldable pub weight_tests : Bool → ℕ → List ℕ → List Test
weight_tests true k b = real_tests k b
weight_tests false k b = there (2 * k) b ∷ []

-- how many bytes a weight has
unfoldable pub weight_length : Bool → ℕ
weight_length real = cond real 4 2
