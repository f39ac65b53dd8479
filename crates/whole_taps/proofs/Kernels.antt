-- Taps with whole numerators stand for the kernel that they were read from. Assumes nothing.
use Prim.Native.Nat.{ℕ, ◌*◌, ◌≤◌, ◌<◌}
use native.Mathlib.Omega.{arith}
use mathlib.Core.Path.{◌≡◌, sym, ap, ◌∙◌}
use mathlib.Core.List.{List, map}
use lib.ListN.{length, get_or, take, length-take}
use lib.IntN.{ℤ, pos, nat_abs}
use Rattle.lists.specs.Tabulate.{tabulate}
use Rattle.lists.proofs.Tabulate.{length-tabulate, tabulate_ext, entry_known}
use Rattle.model.specs.Kernel.{tap, kernel}
use Rattle.stage_values.specs.Place.{offset_of}
use Rattle.numerators.specs.Numerator.{numerator_of}
use Rattle.kernels.specs.Kernel.{tap_of, kernel_of, Limits}
use Rattle.kernels.proofs.Units.{one_within}
use Rattle.tap_sums.specs.HeldSums.{held_tap}
use Rattle.kernels.proofs.Sizes.{size_is}
use Rattle.stage_values.specs.Size.{held_size}
use Rattle.lists.proofs.Sums.{map-tabulate}
use Rattle.whole_taps.specs.declared.Taps.{Taps}
use Rattle.whole_taps.specs.Whole.{kernel_is, Whole}

module _ (t : Taps) (values : List ℕ) (e : take t.len t.weights ≡ tabulate (λ i. numerator_of (get_or values i 0)) t.len) where
  same_taps : tabulate (held_tap t.offsets t.weights) t.len ≡ tabulate (tap_of t.offsets values) t.len
  unfolding held_tap tap_of
  same_taps = tabulate_ext _ _ t.len (λ i h. ap (λ (a : ℤ). tap (offset_of (get_or t.offsets i 0)) a) (entry_known _ t.weights t.len i (pos 0) e h))

  weights_are : map (λ s. s.weight) (tabulate (tap_of t.offsets values) t.len) ≡ tabulate (λ i. numerator_of (get_or values i 0)) t.len
  unfolding tap_of tap
  weights_are = map-tabulate (λ s. s.weight) (tap_of t.offsets values) t.len

  -- all of these weights are there
  enough : t.len ≤ length t.weights
  enough = omega (arith, length-take t.len t.weights, ap length e, length-tabulate (λ i. numerator_of (get_or values i 0)) t.len)

  pub same-kernel : kernel_is t ≡ kernel_of t.divisor t.offsets values t.len
  unfolding kernel_is kernel_of
  same-kernel = ap (kernel t.divisor) same_taps

  -- the gain is that of the kernel
  pub gain : Limits t.divisor t.offsets values t.len → held_size t.weights t.len ≤ 4 * t.divisor
  gain l = rw (size_is t.weights t.len (tabulate (tap_of t.offsets values) t.len) enough (e ∙ sym weights_are)) l.gain

  pub whole : Limits t.divisor t.offsets values t.len → t.divisor ≤ 65535 → Whole t
  whole l d = record { few = l.taps; near = l.near; low = d; gain = gain l }

-- taps that ratios don't have: one too many, over a divisor of 17 bits, at any offsets and with any numerators
abbrev pub beyond : List ℕ → List ℤ → Taps
beyond offsets weights = record { offsets = offsets; weights = weights; len = 32; divisor = 65536 }

-- ANY TAPS stand for the kernel that they were read from, and not those of ratios alone
pub any_taps : (offsets values : List ℕ) (weights : List ℤ) → take 32 weights ≡ tabulate (λ i. numerator_of (get_or values i 0)) 32
    → kernel_is (beyond offsets weights) ≡ kernel_of 65536 offsets values 32
any_taps offsets values weights e = same-kernel (beyond offsets weights) values e

-- no numerator is large
pub small : (divisor : ℕ) (offsets values : List ℕ) (n : ℕ) → Limits divisor offsets values n → divisor ≤ 65535
    → (i : ℕ) → i < n → nat_abs (numerator_of (get_or values i 0)) ≤ 262140
small divisor offsets values n l d i h = omega (arith, one_within divisor offsets values n l i h, d)
