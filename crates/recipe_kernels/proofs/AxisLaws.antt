-- What the fields of either axis are once all of them pass. Assumes nothing.
use Prim.Native.Nat.{ℕ, zero, suc, ◌+◌, ◌*◌, ◌%◌, ◌≤◌, ◌<◌}
use native.Mathlib.Nat.{mul-le-mul, mul-le-mul_left}
use native.Mathlib.Omega.{arith}
use mathlib.Core.Path.{◌≡◌, sym, subst}
use mathlib.Core.Bool.{Bool, true, false}
use mathlib.Core.List.{List}
use lib.ListN.{length, drop, length-drop}
use lib.Seq.{get_or-drop}
use lib.Dec.{T}
use lib.Signed.{◌<ℤ◌}
use Rattle.refusals.specs.Refusal.{verdict}
use Rattle.std.specs.Prelude.{Ok}
use Rattle.refusals.proofs.Passed.{AllPass, passed_all}
use Rattle.weights.specs.Bits.{accepted}
use Rattle.model_laws.proofs.Binomial.{rising_tabulate}
use Rattle.model.specs.Kernel.{Kernel, Rising, kernel}
use Rattle.recipe_bytes.specs.Bytes.{at, word, signed8, bits}
use Rattle.recipe_bytes.proofs.ByteLaws.{bits-drop}
use Rattle.axis_fields.specs.AxisFields.{sizes_length, divisor_at, size_tests, axis_tests, weight_tests, weight_length}
use Rattle.axis_fields.proofs.SizeLaws.{sizes_most, length_small}
use Rattle.axis_fields.proofs.AxisPassed.{Sizes, sizes_known, offsets_passed, weights_passed}
use Rattle.tap_fields.specs.TapFields.{tap_tests}
use Rattle.tap_fields.proofs.TapFieldLaws.{parts}
use Rattle.taps.specs.TapBytes.{numerator_at, kernel_at}
use Rattle.taps.specs.Held.{Tested, Holds}
use Rattle.recipe_kernels.specs.Kernels.{taps_before, kernel_on, weighted_length}
use Rattle.gain_tests.specs.Kept.{Kept}

kernel_rising : (real : Bool) (D : ℕ) (b : List ℕ) (n o w : ℕ)
    → ((i j : ℕ) → i < j → j < n → signed8 (at b (o + i)) <ℤ signed8 (at b (o + j)))
    → Rising (kernel_at real D b n o w).taps
unfolding kernel_at kernel
kernel_rising real D b n o w h = rising_tabulate (λ i. signed8 (at b (o + i))) (λ i. numerator_at real b (w + weight_length real * i)) n h

-- n offsets from place o are there, from -15 to 15, and rise
abbrev OffsetsAt : ℕ → ℕ → List ℕ → Type 0
OffsetsAt o n b =
    (o + n ≤ length b)
    × ((i : ℕ) → i < n → (113 ≤ (at b (o + i) + 128) % 256) × ((at b (o + i) + 128) % 256 ≤ 143))
    × ((i j : ℕ) → i < j → j < n → signed8 (at b (o + i)) <ℤ signed8 (at b (o + j)))

offsets_at : (o n : ℕ) (b : List ℕ) → ((i : ℕ) → at b i < 256) → 1 ≤ n → AllPass (axis_tests n (drop o b)) → OffsetsAt o n b
offsets_at o n b bytes some h =
    let e : (i : ℕ) → at (drop o b) i ≡ at b (o + i) = λ i. get_or-drop o b i 0 in
    let r = offsets_passed n (drop o b) (λ i. rw (e i) (bytes (o + i))) h in (
      omega (arith, r.0, length-drop o b),
      (λ i l. rw (sym (e i)) (r.1 i l)),
      (λ i j l k. rw (sym (e i), sym (e j)) (r.2 i j l k)),
    )

-- the pattern at a place is accepted
abbrev Good : List ℕ → ℕ → Type 0
Good b k = T (accepted (bits b k))

-- n weights from place w are there, and accepted where they are reals
abbrev WeightsAt : Bool → ℕ → ℕ → List ℕ → Type 0
WeightsAt real w n b = (w + weight_length real * n ≤ length b) × (T real → (i : ℕ) → i < n → Good b (w + weight_length real * i))

weights-at : (real : Bool) (w n : ℕ) (b : List ℕ) → w ≤ length b → AllPass (weight_tests real n (drop w b)) → WeightsAt real w n b
weights-at real w n b l h =
    let r = weights_passed real n (drop w b) h in
    (omega (arith, r.0, length-drop w b), λ t i k. rw (sym (bits-drop w b (weight_length real * i))) (r.1 t i k))

divisor_low : (real : Bool) (k : ℕ) (b : List ℕ) → ((i : ℕ) → at b i < 256) → divisor_at real k b ≤ 34359738368
unfolding divisor_at word
divisor_low true k b bytes = omega arith
divisor_low false k b bytes = omega (arith, bytes k, bytes (k + 1))

pub taps_sizes : (real : Bool) (b : List ℕ) → verdict (tap_tests real b) ≡ Ok tt → Sizes real b
taps_sizes real b h = sizes_known real b (passed_all (size_tests real b) (parts real b h).0)

-- an axis, 0 or 1: its count, its divisor, the taps before its own, and its offsets
record OnAxis (real : Bool) (b : List ℕ) (axis : ℕ) : Type 0 where
  few : at b axis ≤ 31
  divided : 0 < divisor_at real (2 + 2 * axis) b
  few-before : taps_before axis b ≤ 31
  within : taps_before axis b + at b axis ≤ at b 0 + at b 1
  offsets : OffsetsAt (sizes_length real + taps_before axis b) (at b axis) b

module _ (real : Bool) (b : List ℕ) (bytes : (i : ℕ) → at b i < 256) (h : verdict (tap_tests real b) ≡ Ok tt) where
  sizes : Sizes real b
  sizes = taps_sizes real b h

  on_axis : (axis : ℕ) → axis ≤ 1 → OnAxis real b axis
  unfolding taps_before
  on_axis zero l = record {
    few = sizes.few-across;
    divided = sizes.divisor-across;
    few-before = omega arith;
    within = omega arith;
    offsets = subst (λ (o : ℕ). OffsetsAt o (at b 0) b) (omega arith) (offsets_at (sizes_length real) (at b 0) b bytes sizes.some-across (parts real b h).1);
  }
  on_axis (suc zero) l = record {
    few = sizes.few-down;
    divided = sizes.divisor-down;
    few-before = sizes.few-across;
    within = omega arith;
    offsets = offsets_at (sizes_length real + at b 0) (at b 1) b bytes sizes.some-down (parts real b h).2;
  }
  on_axis (suc (suc k)) l = absurd (omega (arith, l))

  right_weights : WeightsAt real (sizes_length real + (at b 0 + at b 1)) (at b 0 + at b 1) b
  unfolding taps_before
  right_weights = weights-at real (sizes_length real + (at b 0 + at b 1)) (at b 0 + at b 1) b (omega (arith, (on_axis 1 (omega arith)).offsets.0)) (parts real b h).3

  pub length_passed : weighted_length real b ≤ length b
  unfolding weighted_length
  length_passed = right_weights.0

  pub length_most : weighted_length real b ≤ 8192
  unfolding weighted_length
  length_most =
      let few : at b 0 + at b 1 ≤ 62 = omega (arith, sizes.few-across, sizes.few-down) in
      omega (arith, sizes_most real, few, mul-le-mul (length_small real) few)

  module _ (axis : ℕ) (l : axis ≤ 1) where
    pub axis_rising : Rising (kernel_on real axis b).taps
    unfolding kernel_on
    axis_rising = kernel_rising real _ b (at b axis) _ _ (on_axis axis l).offsets.2

    pub axis_tested : Tested real b (at b axis) (sizes_length real + taps_before axis b) (sizes_length real + (at b 0 + at b 1) + weight_length real * taps_before axis b)
    axis_tested =
        let s = on_axis axis l in
        record {
          few = s.few;
          offsets-there = s.offsets.0;
          weights-there = omega (arith, right_weights.0, mul-le-mul_left (weight_length real) s.within);
          near = (
            omega (arith, sizes_most real, s.few-before),
            omega (arith, sizes_most real, sizes.few-across, sizes.few-down, mul-le-mul (length_small real) s.few-before),
          );
          offsets-right = s.offsets.1;
          weights-right = λ t i k. subst (Good b) (omega arith) (right_weights.1 t (taps_before axis b + i) (omega (arith, k, s.within)));
        }

    pub axis_kept : {offsets values : List ℕ} {K : Kernel} → Holds offsets values (at b axis) (divisor_at real (2 + 2 * axis) b) K → Kept values (at b axis) (divisor_at real (2 + 2 * axis) b)
    axis_kept k =
        let s = on_axis axis l in
        record { few = s.few; some = s.divided; low = divisor_low real (2 + 2 * axis) b bytes; fit = omega (arith, k.values-fit, s.few); small = k.values-small }
