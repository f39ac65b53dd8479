-- A truth as a number. Assumes nothing.
use Rattle.std.specs.Int.{from_bool}
use Rattle.std.proofs.Common.{◌≡◌, ℕ, ◌≤◌, Bool, true, false, cond, refl, arith}

pub bit-is : (b : Bool) → from_bool b ≡ cond {A = ℕ} b 1 0
bit-is true = refl
bit-is false = refl

pub bit_le : (b : Bool) → from_bool b ≤ 1
bit_le true = omega arith
bit_le false = omega arith
