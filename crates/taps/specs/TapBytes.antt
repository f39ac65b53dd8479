-- The taps that two parallel arrays stand for.
use Rattle.std.specs.Prelude.{ℕ, ◌+◌, ◌*◌, Bool, true, false, List, ℤ}
use Rattle.lists.specs.Tabulate.{tabulate}
use Rattle.weights.specs.Bits.{numerator_bits}
use Rattle.model.specs.Kernel.{Kernel, tap, kernel}
use Rattle.recipe_bytes.specs.Bytes.{at, word, signed8, signed16, bits}
use Rattle.axis_fields.specs.AxisFields.{weight_length}

-- the numerator at place k
unfoldable pub numerator_at : Bool → List ℕ → ℕ → ℤ
numerator_at true b k = numerator_bits (bits b k)
numerator_at false b k = signed16 (word b k)

-- n taps over D, with offsets from place o and weights from place w
unfoldable pub kernel_at : Bool → ℕ → List ℕ → ℕ → ℕ → ℕ → Kernel
kernel_at real D b n o w = kernel D (tabulate (λ i. tap (signed8 (at b (o + i))) (numerator_at real b (w + weight_length real * i))) n)
