-- A kernel as the code holds it, and the model's kernel that it stands for.
use Rattle.std.specs.Prelude.{ℕ, ◌*◌, ◌^◌, ◌≤◌, ◌<◌, List, length, get_or}
use Rattle.lists.specs.Tabulate.{tabulate}
use Rattle.model.specs.Kernel.{Tap, tap, kernel, magnitude, Rising}
use Rattle.model.specs.Kernel as Model
use Rattle.stage_values.specs.Place.{offset_of}
use Rattle.numerators.specs.Numerator.{numerator_of}

-- tap i, and the kernel of n taps
unfoldable pub tap_of : List ℕ → List ℕ → ℕ → Tap
tap_of offsets numerators i = tap (offset_of (get_or offsets i 0)) (numerator_of (get_or numerators i 0))

unfoldable pub kernel_of : ℕ → List ℕ → List ℕ → ℕ → Model.Kernel
kernel_of divisor offsets numerators n = kernel divisor (tabulate (tap_of offsets numerators) n)

-- what a recipe keeps to: a divisor of 1 to 2^35, at most 31 taps, a gain of at most 4, offsets that rise, held as 0 to 30
pub record Limits (divisor : ℕ) (offsets numerators : List ℕ) (n : ℕ) : Type 0 where
  pub some : 0 < divisor
  pub few : divisor ≤ 2 ^ 35
  pub taps : n ≤ 31
  pub offsets-fit : n ≤ length offsets
  pub numerators-fit : n ≤ length numerators
  pub gain : magnitude (tabulate (tap_of offsets numerators) n) ≤ 4 * divisor
  pub rising : Rising (tabulate (tap_of offsets numerators) n)
  pub near : (i : ℕ) → i < n → get_or offsets i 0 ≤ 30
