-- The code's test for a spare unit is the model's. Assumes nothing.
use Prim.Native.Nat.{ℕ, zero, suc, ◌+◌, ◌*◌, ◌/◌, ◌<◌, ◌≤◌}
use native.Mathlib.Nat.{not-suc-le-zero}
use native.Mathlib.Omega.{arith}
use mathlib.Core.Path.{◌≡◌, refl, sym, ap, ◌∙◌}
use mathlib.Core.Bool.{Bool, true, false, cond}
use mathlib.Core.List.{List, [], ◌∷◌, map}
use lib.ListN.{get_or, take}
use lib.Dec.{ltb, ltb→lt, lt→ltb}
use lib.IntN.{ℤ, pos, nat_abs, ◌+ℤ◌, ◌-ℤ◌, ◌*ℤ◌}
use lib.Signed.{lt_z}
use Rattle.integers.specs.Divide.{floor_div, ceil_div}
use Rattle.integers.specs.Sum.{sum}
use Rattle.integers.proofs.Parts.{sub_parts, abs_diff}
use Rattle.integers.proofs.Divide.{divided, ceil_least}
use Rattle.integers.proofs.Order.{lt_of_parts, parts_of_lt}
use Rattle.lists.specs.Tabulate.{tabulate}
use Rattle.lists.specs.Count.{count}
use Rattle.lists.proofs.Tabulate.{length-tabulate, tabulate_ext, mem_tabulate, entry_known}
use Rattle.lists.proofs.Count.{count_ext}
use Rattle.model.specs.Kernel.{tap, kernel, magnitude}
use Rattle.model.specs.Apportion.{quotient, remainder, rounded, rounded_taps, distance, nearer, comes_before, served_before, gets_unit, share, apportion}
use Rattle.model.specs.Tolerance.{scaled_gain}
use Rattle.model_laws.proofs.Apportion.{lacking_by_remainders}
use Rattle.stage_values.specs.Place.{offset_of}
use Rattle.numerators.specs.Numerator.{numerator_of, remainder_of}
use Rattle.kernels.specs.Kernel.{tap_of, kernel_of, Limits}
use Rattle.stage_values.specs.Ready.{Ready}
use Rattle.unit_order.specs.Order.{before}
use Rattle.unit_order.specs.Order as Held
use Rattle.lists.proofs.Sums.{map-tabulate}

-- ---- each numerator is within the gain

sum-at : (f : ℕ → ℕ) (n i : ℕ) → i < n → f i ≤ sum (tabulate f n)
unfolding sum tabulate
sum-at f zero i h = absurd (not-suc-le-zero h)
sum-at f (suc n) zero h = omega arith
sum-at f (suc n) (suc i) h = omega (arith, sum-at (λ k. f (suc k)) n i (omega arith))

pub magnitude-is : (offsets values : List ℕ) (n : ℕ) → magnitude (tabulate (tap_of offsets values) n) ≡ sum (tabulate (λ i. nat_abs (numerator_of (get_or values i 0))) n)
unfolding magnitude tap_of tap
magnitude-is offsets values n = ap sum (map-tabulate (λ t. nat_abs t.weight) (tap_of offsets values) n)

module _ (divisor : ℕ) (offsets values : List ℕ) (n : ℕ) (l : Limits divisor offsets values n) where
  pub one_within : (i : ℕ) → i < n → nat_abs (numerator_of (get_or values i 0)) ≤ 4 * divisor
  one_within i h = omega (arith, sum-at (λ k. nat_abs (numerator_of (get_or values k 0))) n i h, magnitude-is offsets values n, l.gain)

-- ---- the order of service

offset-lt : (o p : ℕ) → lt_z (offset_of o) (offset_of p) ≡ ltb o p
unfolding offset_of
offset-lt o p = go (lt_z (pos o -ℤ pos 15) (pos p -ℤ pos 15)) (ltb o p) refl refl
  where
    there : lib.Dec.T (lt_z (pos o -ℤ pos 15) (pos p -ℤ pos 15)) → o < p
    there t = omega (arith, parts_of_lt {x = pos o -ℤ pos 15} {y = pos p -ℤ pos 15} (record { lt = t }), sub_parts (pos o) (pos 15), sub_parts (pos p) (pos 15))

    back : o < p → lib.Dec.T (lt_z (pos o -ℤ pos 15) (pos p -ℤ pos 15))
    back h = (lt_of_parts (pos o -ℤ pos 15) (pos p -ℤ pos 15) (omega (arith, sub_parts (pos o) (pos 15), sub_parts (pos p) (pos 15)))).lt

    go : (s t : Bool) → lt_z (pos o -ℤ pos 15) (pos p -ℤ pos 15) ≡ s → ltb o p ≡ t → s ≡ t
    go true true d e = refl
    go false false d e = refl
    go true false d e = absurd (rw e at (lt→ltb o p (there (rw d tt))))
    go false true d e = absurd (rw d at (back (ltb→lt o p (rw e tt))))

distance_is : (o : ℕ) → nat_abs (offset_of o) ≡ Held.distance o
unfolding offset_of Held.distance
distance_is o = abs_diff o 15

comes_is : (divisor : ℕ) (offsets values : List ℕ) (j i : ℕ)
    → comes_before divisor (tap_of offsets values j) (tap_of offsets values i)
    ≡ before (remainder_of (get_or values j 0) divisor) (get_or offsets j 0) (remainder_of (get_or values i 0) divisor) (get_or offsets i 0)
unfolding comes_before nearer distance tap_of tap remainder before Held.nearer remainder_of
comes_is divisor offsets values j i = rw (distance_is (get_or offsets j 0), distance_is (get_or offsets i 0), offset-lt (get_or offsets j 0) (get_or offsets i 0))

count_map : {A B : Type 0} (p : B → Bool) (f : A → B) (xs : List A) → count p (map f xs) ≡ count (λ x. p (f x)) xs
unfolding count
count_map p f [] = refl
count_map p f (x ∷ xs) = ap (λ (k : ℕ). cond (p (f x)) 1 0 + k) (count_map p f xs)

count-tabulate : {A : Type 0} (p : A → Bool) (f : ℕ → A) (n : ℕ) → count p (tabulate f n) ≡ count (λ j. p (f j)) (tabulate (λ j. j) n)
count-tabulate p f n = ap (count p) (sym (map-tabulate f (λ j. j) n)) ∙ count_map p f (tabulate (λ j. j) n)

-- how many of the remainders are not 0
pub rounded-is : (divisor : ℕ) (offsets values : List ℕ) (n : ℕ) → count (ltb 0) (tabulate (λ i. remainder_of (get_or values i 0) divisor) n) ≡ rounded_taps (kernel_of divisor offsets values n)
unfolding rounded_taps rounded kernel_of kernel remainder tap_of tap remainder_of
rounded-is divisor offsets values n =
    ap (count (ltb 0)) (sym (map-tabulate (remainder divisor) (tap_of offsets values) n))
    ∙ count_map (ltb 0) (remainder divisor) (tabulate (tap_of offsets values) n)

-- the remainders that the code holds are the model's
module _ (divisor : ℕ) (offsets values rest : List ℕ) (n : ℕ) (e : take n rest ≡ tabulate (λ i. remainder_of (get_or values i 0) divisor) n) where
  rest_at : (i : ℕ) → i < n → get_or rest i 0 ≡ remainder_of (get_or values i 0) divisor
  rest_at i h = entry_known _ rest n i 0 e h

  sum_is : sum (tabulate (λ i. get_or rest i 0) n) ≡ sum (map (remainder divisor) (tabulate (tap_of offsets values) n))
  unfolding remainder tap_of tap remainder_of
  sum_is = ap sum (tabulate_ext _ _ n rest_at ∙ sym (map-tabulate (remainder divisor) (tap_of offsets values) n))

  pub rest_small : 0 < divisor → (i : ℕ) → i < n → get_or rest i 0 < divisor
  unfolding remainder_of
  rest_small h i l = rw (rest_at i l) (divided (pos 65536 *ℤ numerator_of (get_or values i 0)) divisor h).small

  -- the taps that come before tap i
  ahead_is : (i : ℕ) → i < n
      → count (λ s. comes_before divisor s (tap_of offsets values i)) (tabulate (tap_of offsets values) n)
      ≡ count (λ j. before (get_or rest j 0) (get_or offsets j 0) (get_or rest i 0) (get_or offsets i 0)) (tabulate (λ j. j) n)
  ahead_is i h =
      count-tabulate (λ s. comes_before divisor s (tap_of offsets values i)) (tap_of offsets values) n
      ∙ count_ext _ _ (tabulate (λ j. j) n) (λ j m. same j (mem_tabulate (λ k. k) n j m))
    where
      same : (j : ℕ) → (k : ℕ) × (k < n) × (j ≡ k) → comes_before divisor (tap_of offsets values j) (tap_of offsets values i) ≡ before (get_or rest j 0) (get_or offsets j 0) (get_or rest i 0) (get_or offsets i 0)
      same j (k, l, e) = rw (rest_at i h, rest_at j (rw e l)) (comes_is divisor offsets values j i)

  pub unit_is : (i : ℕ) → i < n → 0 < divisor → gets_unit (kernel_of divisor offsets values n) (tap_of offsets values i)
      ≡ ltb (count (λ j. before (get_or rest j 0) (get_or offsets j 0) (get_or rest i 0) (get_or offsets i 0)) (tabulate (λ j. j) n)) ((2 * sum (tabulate (λ k. get_or rest k 0) n) + divisor) / (2 * divisor))
  unfolding gets_unit served_before kernel_of kernel
  unit_is i h hD = rw (lacking_by_remainders (kernel_of divisor offsets values n) hD, ahead_is i h, sum_is)

-- the weight that the code stores
pub weight_is : (divisor : ℕ) (offsets values : List ℕ) (n i u : ℕ) {w : ℤ} → w ≡ floor_div (pos 65536 *ℤ numerator_of (get_or values i 0)) divisor +ℤ pos u
    → u ≡ cond (gets_unit (kernel_of divisor offsets values n) (tap_of offsets values i)) 1 0 → w ≡ (share (kernel_of divisor offsets values n) (tap_of offsets values i)).weight
unfolding share quotient tap_of tap kernel_of kernel
weight_is divisor offsets values n i u e f = e ∙ ap (λ (k : ℕ). floor_div (pos 65536 *ℤ numerator_of (get_or values i 0)) divisor +ℤ pos k) f

pub shares_are : (divisor : ℕ) (offsets values : List ℕ) (n : ℕ)
    → map (λ t. t.weight) (apportion (kernel_of divisor offsets values n)) ≡ tabulate (λ i. (share (kernel_of divisor offsets values n) (tap_of offsets values i)).weight) n
unfolding apportion kernel_of kernel
shares_are divisor offsets values n =
    ap (map (λ t. t.weight)) (map-tabulate (share (kernel_of divisor offsets values n)) (tap_of offsets values) n)
    ∙ map-tabulate (λ t. t.weight) (λ i. share (kernel_of divisor offsets values n) (tap_of offsets values i)) n

module _ (divisor : ℕ) (offsets values : List ℕ) (n : ℕ) (l : Limits divisor offsets values n) where
  pub value_small : (i : ℕ) → i < n → get_or values i 0 ≤ 549755813888
  unfolding numerator_of
  value_small i h = omega (arith, one_within divisor offsets values n l i h, abs_diff (get_or values i 0) 274877906944, l.few)

-- an axis of the code is the model's, and ready
module _ (divisor : ℕ) (offsets values : List ℕ) (n m rounded gain : ℕ) (weights : List ℤ) (l : Limits divisor offsets values n)
    (e : take n weights ≡ map (λ t. t.weight) (apportion (kernel_of divisor offsets values n))) (r : rounded ≡ rounded_taps (kernel_of divisor offsets values n))
    (f : m ≡ sum (tabulate (λ i. nat_abs (numerator_of (get_or values i 0))) n)) (g : gain ≡ ceil_div (65536 * m) divisor) where
  gain-is : gain ≡ scaled_gain (kernel_of divisor offsets values n)
  unfolding kernel_of kernel scaled_gain
  gain-is = g ∙ ap (λ (k : ℕ). ceil_div (65536 * k) divisor) (f ∙ sym (magnitude-is offsets values n))

  pub axis_ready : Ready (kernel_of divisor offsets values n) (record { offsets = offsets; weights = weights; len = n; rounded = rounded; gain = gain })
  unfolding kernel_of kernel tap_of tap scaled_gain
  axis_ready = record {
    count = sym (length-tabulate (tap_of offsets values) n);
    places = sym (map-tabulate (λ t. t.offset) (tap_of offsets values) n);
    shares = e;
    rounded = r;
    scaled-gain = gain-is;
    few = l.taps;
    near = l.near;
    limited = rw gain-is (ceil_least (65536 * magnitude (tabulate (tap_of offsets values) n)) divisor 262144 l.some (omega (arith, l.gain)));
    divided = l.some;
  }
