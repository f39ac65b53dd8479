-- The size of the weights of an axis, as the code holds them.
use Rattle.std.specs.Prelude.{ℕ, zero, suc, ◌+◌, List, get_or, ℤ, pos, nat_abs}

-- the sum of the first n weights' sizes
abbrev pub held_size : List ℤ → ℕ → ℕ
held_size weights zero = 0
held_size weights (suc n) = held_size weights n + nat_abs (get_or weights n (pos 0))
