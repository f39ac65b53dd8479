-- Taps and kernels along one axis, for 'Weights into 65,536ths'.
use Rattle.std.specs.Prelude.{ℕ, ℤ, pos, nat_abs, ◌+ℤ◌, ◌*ℤ◌, ◌<ℤ◌}
use mathlib.Core.List.{List, [], ◌∷◌, map, Memᴰ}
use Rattle.integers.specs.Sum.{sum, sumℤ}

-- a tap: its offset, called i across and j down, and a whole weight a, the numerator over the D of its axis
pub record Tap : Type 0 where
  pub offset : ℤ
  pub weight : ℤ

unfoldable pub tap : ℤ → ℤ → Tap
tap i a = record { offset = i; weight = a }

-- a kernel: the taps of one axis, and the single D that all their weights are over
pub record Kernel : Type 0 where
  pub divisor : ℕ
  pub taps : List Tap

unfoldable pub kernel : ℕ → List Tap → Kernel
kernel D ts = record { divisor = D; taps = ts }

-- the sum over the taps of the weight times the value at the offset (002, equation 5.3, along one axis)
unfoldable pub weighted_sum : List Tap → (ℤ → ℤ) → ℤ
weighted_sum [] f = pos 0
weighted_sum (t ∷ ts) f = t.weight *ℤ f t.offset +ℤ weighted_sum ts f

-- the sum of a
unfoldable pub total : List Tap → ℤ
total ts = sumℤ (map (λ t. t.weight) ts)

-- |a| summed over the taps; divided by D it is the axis's gain
unfoldable pub magnitude : List Tap → ℕ
magnitude ts = sum (map (λ t. nat_abs t.weight) ts)

-- offsets that rise along the axis: each is below all that follow
abbrev pub Rising : List Tap → Type 0
Rising [] = Unit {0}
Rising (t ∷ ts) = ((s : Tap) → Memᴰ s ts → t.offset <ℤ s.offset) × Rising ts
