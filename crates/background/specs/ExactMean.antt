-- The mean of exact stills, without fractions: each exact still is a list of numerators over a denominator of its own.
use Rattle.std.specs.Prelude.{ℕ, ◌+◌, ◌*◌, ◌≤◌, ◌<◌, List, [], ◌∷◌, get_or}
use Rattle.model.specs.Within.{Within}
use Rattle.background.specs.Background.{Member}

-- a member, and the exact still that it stands for: numerators over a denominator
pub record Measured : Type 0 where
  pub member : Member
  pub numerators : List ℕ
  pub denominator : ℕ

-- a member is honest: its samples are bytes, those of its exact still lie in 0 to 255, and each lies within the member's T of the exact one. Places past the end of a list count as 0
pub record Honest (k : Measured) : Type 0 where
  pub divides : 0 < k.denominator
  pub bytes : (j : ℕ) → get_or k.member.raster j 0 ≤ 255
  pub levels : (j : ℕ) → get_or k.numerators j 0 ≤ 255 * k.denominator
  pub within : (j : ℕ) → Within k.member.tolerance k.denominator (get_or k.member.raster j 0) (get_or k.numerators j 0)

-- the denominator of the sum of all exact stills: the product of theirs
unfoldable pub common_denominator : List Measured → ℕ
common_denominator [] = 1
common_denominator (k ∷ ks) = k.denominator * common_denominator ks

-- its numerator at place j: x/N + X/P is (x·P + N·X) / (N·P)
unfoldable pub exact_total : ℕ → List Measured → ℕ
exact_total j [] = 0
exact_total j (k ∷ ks) = get_or k.numerators j 0 * common_denominator ks + k.denominator * exact_total j ks
