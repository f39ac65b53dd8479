-- Taps as the code holds them with whole numerators, and the model's kernel that they stand for.
use Rattle.std.specs.Prelude.{ℕ, ◌*◌, ◌≤◌, ◌<◌, get_or}
use Rattle.lists.specs.Tabulate.{tabulate}
use Rattle.model.specs.Kernel.{Kernel, kernel}
use Rattle.stage_values.specs.Size.{held_size}
use Rattle.tap_sums.specs.HeldSums.{held_tap}
use Rattle.whole_taps.specs.declared.Taps.{Taps}

-- the kernel of these taps
unfoldable pub kernel_is : Taps → Kernel
kernel_is t = kernel t.divisor (tabulate (held_tap t.offsets t.weights) t.len)

-- what ratios keep to: at most 31 taps, offsets within reach, a divisor of 16 bits, a gain of at most 4
pub record Whole (t : Taps) : Type 0 where
  pub few : t.len ≤ 31
  pub near : (i : ℕ) → i < t.len → get_or t.offsets i 0 ≤ 30
  pub low : t.divisor ≤ 65535
  pub gain : held_size t.weights t.len ≤ 4 * t.divisor
