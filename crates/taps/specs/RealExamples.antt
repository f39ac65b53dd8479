-- Worked examples of binary32 weights that are rounded to 65,536ths, and of some that are not (request 2026-08), by the bytes that stand in a recipe.
use Rattle.std.specs.Prelude.{ℕ, ◌^◌, true, List, [], ◌∷◌, map, ◌≡◌, refl}
use Prim.Native.String.{String}
use Rattle.integers.specs.Divide.{modulo}
use Rattle.lists.specs.Count.{count}
use Rattle.lists.specs.Tabulate.{tabulate}
use Rattle.weights.specs.Bits.{units, numerator_bits}
use Rattle.model.specs.Kernel.{tap, kernel}
use Rattle.model.specs.Apportion.{remainder, rounded, rounded_taps}
use Rattle.model.specs.Examples.{Example, row, counts}
use Rattle.recipe_bytes.specs.Bytes.{signed8, bits}
use Rattle.axis_fields.specs.AxisFields.{weight_length}
use Rattle.taps.specs.TapBytes.{numerator_at, kernel_at}

-- how many weights are rounded of one alone, at offset 0, that has these four bytes
unfoldable pub weight_row : String → ℕ → ℕ → ℕ → ℕ → ℕ → Example
weight_row name a b c d n = row name (counts (rounded_taps (kernel_at true (2 ^ 35) (0 ∷ a ∷ b ∷ c ∷ d ∷ []) 1 0 1) ∷ [])) (counts (n ∷ []))

-- Worked by hand, in 65,536ths: 2^-12 is 16, and the next binary32 above it 16 and 2^-19; 1/3 as binary32 is 21,845 171/512; 1/2, 4 and 0 are whole
unfoldable pub real_weights : List Example
real_weights =
    weight_row "2^-12" 0x39 0x80 0x00 0x00 0
    ∷ weight_row "the next above 2^-12" 0x39 0x80 0x00 0x01 1
    ∷ weight_row "1/3" 0x3E 0xAA 0xAA 0xAB 1
    ∷ weight_row "-1/3" 0xBE 0xAA 0xAA 0xAB 1
    ∷ weight_row "-1/2" 0xBF 0x00 0x00 0x00 0
    ∷ weight_row "4" 0x40 0x80 0x00 0x00 0
    ∷ weight_row "-0" 0x80 0x00 0x00 0x00 0
    ∷ []

-- THE WORKED EXAMPLES HOLD, by computation
pub real_examples_hold : map (λ e. e.found) real_weights ≡ map (λ e. e.expected) real_weights
unfolding modulo count tabulate units numerator_bits tap kernel remainder rounded rounded_taps signed8 bits weight_length numerator_at kernel_at row weight_row real_weights
real_examples_hold = refl
