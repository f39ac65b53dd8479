-- Offsets and numerators that are held stand for those of the bytes. Assumes nothing.
use Prim.Native.Nat.{ℕ, ◌+◌, ◌-◌, ◌*◌, ◌%◌, ◌≤◌, ◌<◌}
use native.Mathlib.Omega.{arith}
use mathlib.Core.Path.{◌≡◌, refl, ap}
use mathlib.Core.Bool.{Bool, true, false, not, cond}
use mathlib.Core.List.{List}
use lib.ListN.{length, get_or, take}
use lib.Dec.{T, ltb, ltb→lt, nltb→le}
use lib.IntN.{ℤ, pos, negsuc, nat_abs, ◌+ℤ◌, ◌-ℤ◌}
use Rattle.weights.specs.Bits.{accepted}
use lib.Signed.{non_neg}
use Rattle.integers.proofs.Parts.{neg_part, parts_ext, abs_parts, add_parts, sub_parts}
use Rattle.integers.proofs.Machine.{biased_nat}
use Rattle.lists.specs.Tabulate.{tabulate}
use Rattle.lists.proofs.Tabulate.{entry_known, tabulate_ext}
use Rattle.weights.proofs.Laws.{numerator_small}
use Rattle.model.specs.Kernel.{tap, kernel}
use Rattle.stage_values.specs.Place.{offset_of}
use Rattle.numerators.specs.Numerator.{numerator_of}
use Rattle.kernels.specs.Kernel.{tap_of, kernel_of}
use Rattle.recipe_bytes.specs.Bytes.{at, word, signed8, bits}
use Rattle.axis_fields.specs.AxisFields.{weight_length}
use Rattle.taps.specs.TapBytes.{numerator_at, kernel_at}
use Rattle.taps.specs.Held.{held_offset, held_numerator, Tested, Holds}
use Rattle.recipe_bytes.proofs.ByteLaws.{ratio_small}

-- an offset that is held
offset-back : (x : ℕ) → x < 256 → 113 ≤ (x + 128) % 256 → offset_of (held_offset x) ≡ signed8 x
unfolding offset_of held_offset signed8
offset-back x s h = go (ltb x 128) (ltb→lt x 128) (nltb→le x 128)
  where
    go : (t : Bool) → (T t → x < 128) → (T (not t) → 128 ≤ x) → pos ((x + 128) % 256 - 113) -ℤ pos 15 ≡ cond t (pos x) (pos x -ℤ pos 256)
    go true low high = parts_ext _ _ (omega (arith, low tt, sub_parts (pos ((x + 128) % 256 - 113)) (pos 15)))
    go false low high = parts_ext _ _ (omega (arith, high tt, sub_parts (pos ((x + 128) % 256 - 113)) (pos 15), sub_parts (pos x) (pos 256)))

-- the test bounds the raised offset by 143, and it is held 113 less
offset_near : (x : ℕ) → (x + 128) % 256 ≤ 143 → held_offset x ≤ 30
unfolding held_offset
offset_near x h = omega arith

no_low : (z : ℤ) → T (non_neg z) → neg_part z ≡ 0
no_low (pos n) h = refl
no_low (negsuc n) h = absurd h

-- a numerator that is held
module _ (a : ℤ) (h : nat_abs a ≤ 137438953472) where
  numerator-back : numerator_of (held_numerator a) ≡ a
  unfolding numerator_of held_numerator
  numerator-back = parts_ext _ _ (omega (arith, abs_parts a, abs_parts (a +ℤ pos 274877906944), add_parts a (pos 274877906944), no_low (a +ℤ pos 274877906944) (biased_nat a 274877906944 (omega arith)), sub_parts (pos (nat_abs (a +ℤ pos 274877906944))) (pos 274877906944)))

  held_small : held_numerator a ≤ 549755813888
  unfolding held_numerator
  held_small = omega (arith, abs_parts a, abs_parts (a +ℤ pos 274877906944), add_parts a (pos 274877906944))

module _ (real : Bool) (D : ℕ) (b : List ℕ) (n o w : ℕ) (bytes : (i : ℕ) → at b i < 256) (t : Tested real b n o w) where
  numerator_within : (i : ℕ) → i < n → nat_abs (numerator_at real b (w + weight_length real * i)) ≤ 137438953472
  unfolding numerator_at word
  numerator_within i h = go real (λ r. t.weights-right r i h)
    where
      go : (r : Bool) → (T r → T (accepted (bits b (w + weight_length real * i)))) → nat_abs (numerator_at r b (w + weight_length real * i)) ≤ 137438953472
      go true f = numerator_small _ (f tt)
      go false f = ratio_small _ (omega (arith, bytes (w + weight_length real * i), bytes (w + weight_length real * i + 1)))

  pub holds : (offsets values : List ℕ) → 31 ≡ length offsets → take n offsets ≡ tabulate (λ i. held_offset (at b (o + i))) n
      → 31 ≡ length values → take n values ≡ tabulate (λ i. held_numerator (numerator_at real b (w + weight_length real * i))) n
      → Holds offsets values n D (kernel_at real D b n o w)
  unfolding kernel_of kernel_at tap_of
  holds offsets values a e c f =
      let same : (i : ℕ) → i < n → tap (offset_of (get_or offsets i 0)) (numerator_of (get_or values i 0)) ≡ tap (signed8 (at b (o + i))) (numerator_at real b (w + weight_length real * i)) =
      (λ i h. rw (entry_known _ offsets n i 0 e h, entry_known _ values n i 0 f h, offset-back (at b (o + i)) (bytes (o + i)) (t.offsets-right i h).0, numerator-back _ (numerator_within i h)))
      in
      record {
        is = ap (kernel D) (tabulate_ext _ _ n same);
        offsets-fit = a;
        offsets-near = λ i h. rw (entry_known _ offsets n i 0 e h) (offset_near _ (t.offsets-right i h).1);
        values-fit = c;
        values-small = λ i h. rw (entry_known _ values n i 0 f h) (held_small _ (numerator_within i h));
      }
