-- THE TOLERANCE OF A MEAN IS HONEST: every sample of the mean still lies within its T of the mean of the exact stills, for any number of them. Assumes nothing.
use Prim.Native.Nat.{ℕ, suc, ◌+◌, ◌*◌, ◌≤◌, ◌<◌, min}
use native.Mathlib.Nat.{mul-le-mul_left, div-add-mod, mod-lt, mul-pos, le_of_suc-le-suc, div-lt_iff_lt-mul}
use native.Mathlib.Omega.{arith}
use mathlib.Core.Path.{◌≡◌, ap, ◌∙◌}
use mathlib.Core.List.{List, [], ◌∷◌, map}
use lib.ListN.{length, get_or, length-map}
use Rattle.integers.specs.Divide.{nearest}
use Rattle.integers.specs.Sum.{sum}
use Rattle.integers.proofs.Near.{mul-min}
use Rattle.lists.proofs.Tabulate.{get_d_tabulate}
use Rattle.model.specs.Outline.{largest}
use Rattle.model.specs.Within.{distance, Within}
use Rattle.model_laws.proofs.Window.{Apart, apart_of_within}
use Rattle.background.specs.Background.{Member, Background, stills, samples}
use Rattle.background.specs.Mean.{mean_of, samples_at, mean_raster, mean_tolerance}
use Rattle.background.specs.ExactMean.{Measured, Honest, common_denominator, exact_total}

-- every member of a list is honest
abbrev pub AllHonest : List Measured → Type 0
AllHonest [] = Unit {0}
AllHonest (k ∷ ks) = Honest k × AllHonest ks

abbrev members : List Measured → List Member
members ks = map (λ k. k.member) ks

-- ---- distances and `Within`

-- y and x/N lie in 0 to 255, so they are never more than 255 levels apart, and T can be cut there
within_cut : (T N y x : ℕ) → y ≤ 255 → x ≤ 255 * N → Apart N (T * N) y x → Within (min T 16711680) N y x
unfolding Within distance
within_cut T N y x hy hx c = omega (arith, mul-min N T 16711680, mul-le-mul_left N hy)

-- ---- the sum of the written samples, and that of the exact ones

-- one member more: its distance times the denominator of the others, and theirs times its own
apart_more : (T M n N P y S x X : ℕ) → T ≤ M → Apart N (T * N) y x → Apart P (M * (n * P)) S X → Apart (N * P) (M * (suc n * (N * P))) (y + S) (x * P + N * X)
apart_more T M n N P y S x X h a b =
    omega (
      arith,
      mul-le-mul_left P a.le,
      mul-le-mul_left P a.ge,
      mul-le-mul_left N b.le,
      mul-le-mul_left N b.ge,
      mul-le-mul_left (N * P) h,
    )

-- no member's T is above M, so the sums are at most M apart for each member
sums_apart : (M : ℕ) (ks : List Measured) → AllHonest ks → largest (map (λ m. m.tolerance) (members ks)) ≤ M → (j : ℕ)
    → Apart (common_denominator ks) (M * (length ks * common_denominator ks)) (sum (samples_at j (members ks))) (exact_total j ks)
unfolding largest samples_at sum common_denominator exact_total
sums_apart M [] o h j = omega arith
sums_apart M (k ∷ ks) o h j =
    apart_more k.member.tolerance M (length ks) k.denominator (common_denominator ks) _ _ _ _ (omega arith) (apart_of_within _ _ _ _ (o.0.within j))
    (sums_apart M ks o.1 (omega arith) j)

-- each exact sample lies in 0 to 255, so their sum in 0 to 255 times their number
exact-le : (ks : List Measured) → AllHonest ks → (j : ℕ) → exact_total j ks ≤ 255 * (length ks * common_denominator ks)
unfolding common_denominator exact_total
exact-le [] o j = omega arith
exact-le (k ∷ ks) o j = omega (arith, mul-le-mul_left (common_denominator ks) (o.0.levels j), mul-le-mul_left k.denominator (exact-le ks o.1 j))

-- the same of the written ones
written-le : (ks : List Measured) → AllHonest ks → (j : ℕ) → sum (samples_at j (members ks)) ≤ 255 * length ks
unfolding samples_at sum
written-le [] o j = omega arith
written-le (k ∷ ks) o j = omega (arith, o.0.bytes j, written-le ks o.1 j)

-- ---- the mean, of k samples whose sum is S

mean-is : (ks : List Measured) (j : ℕ) → mean_of (samples_at j (members ks)) ≡ nearest (sum (samples_at j (members ks))) (length ks)
unfolding mean_of samples_at
mean-is ks j = simp length-map

module _ (S k : ℕ) (h : 0 < k) where
  rounded-le : S ≤ 255 * k → nearest S k ≤ 255
  rounded-le b = le_of_suc-le-suc ((div-lt_iff_lt-mul {k = 2 * k} {x = 2 * S + k} {y = 256} (omega arith)).1 (omega arith))

  -- rounding moves by half a level at most
  rounded-apart : (M P X : ℕ) → Apart P (M * (k * P)) S X → Apart (k * P) ((M + 32768) * (k * P)) (nearest S k) X
  rounded-apart M P X a =
      omega (arith, ap (λ (n : ℕ). P * n) (div-add-mod (2 * S + k) (2 * k)), mul-le-mul_left P (mod-lt (2 * S + k) {m = 2 * k} (omega arith)))

-- the common denominator is not 0, so that what follows says something
pub common_pos : (ks : List Measured) → AllHonest ks → 0 < common_denominator ks
unfolding common_denominator
common_pos [] o = omega arith
common_pos (k ∷ ks) o = mul-pos o.0.divides (common_pos ks o.1)

-- THE MEAN OF HONEST MEMBERS IS HONEST
pub mean_within : (ks : List Measured) → AllHonest ks → 0 < length ks → (j : ℕ)
    → Within (mean_tolerance (map (λ k. k.member) ks)) (length ks * common_denominator ks) (mean_of (samples_at j (map (λ k. k.member) ks))) (exact_total j ks)
unfolding mean_tolerance
mean_within ks o h j =
    rw (mean-is ks j)
    (within_cut _ _ _ _ (rounded-le _ _ h (written-le ks o j)) (exact-le ks o j) (rounded-apart _ _ h _ _ _ (sums_apart _ ks o (omega arith) j)))

-- the same of a background whose members these are, sample by sample of its mean still
pub background_within : (b : Background) (ks : List Measured) → b.members ≡ map (λ k. k.member) ks → AllHonest ks → 0 < stills b → (j : ℕ) → j < samples b
    → Within (mean_tolerance b.members) (stills b * common_denominator ks) (get_or (mean_raster b) j 0) (exact_total j ks)
unfolding mean_raster
background_within b ks e o h j l =
    let count : stills b ≡ length ks = ap length e ∙ length-map ks (λ k. k.member) in
    rw (get_d_tabulate (λ j. mean_of (samples_at j b.members)) (samples b) j 0 l, count, e) (mean_within ks o (omega arith) j)
