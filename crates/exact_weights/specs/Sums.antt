-- Sums by taps with whole numerators.
use Rattle.std.specs.Prelude.{ℕ, ℤ}
use Rattle.tap_sums.specs.HeldSums.{held_sum}
use Rattle.whole_taps.specs.declared.Taps.{Taps}

-- the sum over all taps of the numerator times what stands at the held offset
abbrev pub tap_sum : Taps → (ℕ → ℤ) → ℤ
tap_sum t g = held_sum t.offsets t.weights t.len g
