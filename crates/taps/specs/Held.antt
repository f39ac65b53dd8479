-- Taps as the code holds them: offsets 15 too large, numerators 2^38 too large.
use Rattle.std.specs.Prelude.{ℕ, ◌+◌, ◌-◌, ◌*◌, ◌%◌, ◌^◌, ◌≤◌, ◌<◌, ◌≡◌, Bool, List, length, get_or, T, ℤ, pos, nat_abs, ◌+ℤ◌}
use Rattle.model.specs.Kernel as Model
use Rattle.weights.specs.Bits.{accepted}
use Rattle.kernels.specs.Kernel.{kernel_of}
use Rattle.recipe_bytes.specs.Bytes.{at, bits}
use Rattle.axis_fields.specs.AxisFields.{weight_length}

-- an offset's byte, as it is held
unfoldable pub held_offset : ℕ → ℕ
held_offset b = (b + 128) % 256 - 113

-- a numerator, as it is held
unfoldable pub held_numerator : ℤ → ℕ
held_numerator a = nat_abs (a +ℤ pos (2 ^ 38))

-- what the tests of n taps with offsets from place o and weights from place w have shown
pub record Tested (real : Bool) (b : List ℕ) (n o w : ℕ) : Type 0 where
  pub few : n ≤ 31
  pub offsets-there : o + n ≤ length b
  pub weights-there : w + weight_length real * n ≤ length b
  pub near : (o ≤ 256) × (w ≤ 256)
  pub offsets-right : (i : ℕ) → i < n → (113 ≤ (at b (o + i) + 128) % 256) × ((at b (o + i) + 128) % 256 ≤ 143)
  pub weights-right : T real → (i : ℕ) → i < n → T (accepted (bits b (w + weight_length real * i)))

-- a kernel of the code that stands for one of the model
pub record Holds (offsets values : List ℕ) (n divisor : ℕ) (K : Model.Kernel) : Type 0 where
  pub is : kernel_of divisor offsets values n ≡ K
  pub offsets-fit : 31 ≡ length offsets
  pub offsets-near : (i : ℕ) → i < n → get_or offsets i 0 ≤ 30
  pub values-fit : 31 ≡ length values
  pub values-small : (i : ℕ) → i < n → get_or values i 0 ≤ 2 ^ 39
