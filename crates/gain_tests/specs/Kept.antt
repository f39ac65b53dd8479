-- What a kernel that was read keeps to before its gain is tested.
use Rattle.std.specs.Prelude.{ℕ, ◌^◌, ◌≤◌, ◌<◌, List, length, get_or}

-- at most 31 taps, a divisor of at most 2^35 that is not 0, and numerators as they are held
pub record Kept (values : List ℕ) (n divisor : ℕ) : Type 0 where
  pub few : n ≤ 31
  pub some : 0 < divisor
  pub low : divisor ≤ 2 ^ 35
  pub fit : n ≤ length values
  pub small : (i : ℕ) → i < n → get_or values i 0 ≤ 2 ^ 39
