-- Exact sums by taps are the model's numerators, and no large numbers. Assumes nothing.
use Prim.Native.Nat.{ℕ, ◌+◌, ◌*◌, ◌^◌, ◌≤◌}
use native.Mathlib.Nat.{mul-le-mul, le_trans}
use native.Mathlib.Omega.{arith}
use mathlib.Core.Path.{◌≡◌, sym, ap, ◌∙◌}
use mathlib.Core.List.{List}
use lib.ListN.{get_or}
use lib.IntN.{ℤ, pos, nat_abs, +ℤ_idr}
use Rattle.model.specs.Kernel.{kernel, weighted_sum}
use Rattle.model.specs.Stage.{weighted}
use Rattle.model.specs.Exact.{numerator}
use Rattle.stage_values.specs.Place.{offset_of}
use Rattle.frame.specs.declared.Frame.{Frame}
use Rattle.frame.specs.Framed.{neighbours}
use Rattle.frame.specs.Padded.{padded}
use Rattle.frame.proofs.Supplied.{around-padded}
use Rattle.stage_values.specs.Size.{held_size}
use Rattle.tap_sums.specs.HeldSums.{held_sum}
use Rattle.tap_sums.proofs.SumLaws.{held_size_lem, held_ext}
use Rattle.tap_sums.proofs.PartialSums.{partial}
use Rattle.tap_sums.proofs.TapLists.{held_list}
use Rattle.whole_taps.specs.declared.Taps.{Taps}
use Rattle.whole_taps.specs.Whole.{kernel_is, Whole}
use Rattle.whole_taps.proofs.Kernels.{beyond}
use Rattle.exact_weights.specs.Sums.{tap_sum}
use Rattle.exact_weights.proofs.Exchange.{exchanged}

-- all taps are in, and nothing was there before
pub all_taps : (offsets : List ℕ) (weights : List ℤ) (g : ℕ → ℕ → ℤ) (n u : ℕ) → partial offsets weights g (pos 0) n u ≡ held_sum offsets weights n (g u)
unfolding partial
all_taps offsets weights g n u = +ℤ_idr (held_sum offsets weights n (g u))

-- ---- sizes

-- the sizes of all numerators of an axis together
pub size_small : {t : Taps} → Whole t → held_size t.weights t.len ≤ 262140
size_small w = omega (arith, w.gain, w.low)

module _ {t : Taps} (w : Whole t) (g : ℕ → ℤ) (M : ℕ) (h : (o : ℕ) → nat_abs (g o) ≤ M) where
  -- a sum is at most four divisors times what is summed
  pub sum-size : nat_abs (tap_sum t g) ≤ 4 * t.divisor * M
  sum-size = le_trans (held_size_lem t.offsets t.weights g M h t.len) (mul-le-mul {m₁ = M} {m₂ = M} w.gain (omega arith))

-- the sums down of samples
pub down_small : {t : Taps} → Whole t → (g : ℕ → ℕ) → ((o : ℕ) → g o ≤ 255) → nat_abs (tap_sum t (λ o. pos (g o))) ≤ 2 ^ 27
down_small {t} w g h = omega (arith, sum-size w (λ o. pos (g o)) 255 h, w.low)

-- ---- the model's sums

module _ (t : Taps) (f : ℤ → ℤ) where
  pub tap_model : tap_sum t (λ o. f (offset_of o)) ≡ weighted_sum (kernel_is t).taps f
  unfolding kernel_is kernel
  tap_model = held_list t.offsets t.weights f t.len

module _ (across down : Taps) (f : Frame) (samples : List ℕ) (u v : ℕ) where
  -- sums down, and then across, are the numerator of the exact result
  pub numerator-is : tap_sum across (λ o. tap_sum down (λ p. pos (padded f samples (u + o) (v + p)))) ≡ numerator (weighted (kernel_is across) (kernel_is down)) (neighbours f samples u v)
  unfolding numerator
  numerator-is =
      exchanged across.offsets across.weights down.offsets down.weights (λ o p. pos (padded f samples (u + o) (v + p))) down.len across.len
      ∙ held_ext down.offsets down.weights _ _ down.len (λ j _. held_ext across.offsets across.weights _ _ across.len (λ i _. ap pos (sym (around-padded f samples u v (get_or across.offsets i 0) (get_or down.offsets j 0))))
      ∙ tap_model across (λ i. pos (neighbours f samples u v i (offset_of (get_or down.offsets j 0)))))
      ∙ tap_model down (λ j. weighted_sum (kernel_is across).taps (λ i. pos (neighbours f samples u v i j)))

  -- THE NUMERATORS OF RATIOS FIT: no size is above 16 · 255 · 2^32, which is below 2^63
  pub numerator-size : Whole across → Whole down → ((x y : ℕ) → padded f samples x y ≤ 255)
      → nat_abs (numerator (weighted (kernel_is across) (kernel_is down)) (neighbours f samples u v)) ≤ 16 * 255 * 2 ^ 32
  numerator-size a b h =
      rw (sym numerator-is)
      (omega (
        arith,
        sum-size a (λ o. tap_sum down (λ p. pos (padded f samples (u + o) (v + p)))) (4 * down.divisor * 255) (λ o. sum-size b (λ p. pos (padded f samples (u + o) (v + p))) 255 (λ p. h (u + o) (v + p))),
        mul-le-mul {n₂ = 65535} {m₂ = 65535} a.low b.low,
      ))

-- ANY TAPS, and not those of ratios alone
pub any_taps : (o p : List ℕ) (a b : List ℤ) (f : Frame) (samples : List ℕ) (u v : ℕ)
    → tap_sum (beyond o a) (λ i. tap_sum (beyond p b) (λ j. pos (padded f samples (u + i) (v + j))))
    ≡ numerator (weighted (kernel_is (beyond o a)) (kernel_is (beyond p b))) (neighbours f samples u v)
any_taps o p a b f samples u v = numerator-is (beyond o a) (beyond p b) f samples u v
