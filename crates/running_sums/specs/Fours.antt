-- Sums of four samples, and four sums side by side.
use Rattle.std.specs.Prelude.{ℕ, zero, suc, ◌+◌, List, slice_index}
use Rattle.running_sums.specs.declared.Lanes.{Lanes}

-- what four samples add up to, from place x on
unfoldable pub four_sum : List ℕ → ℕ → ℕ
four_sum row x = slice_index row x + slice_index row (x + 1) + (slice_index row (x + 2) + slice_index row (x + 3))

-- number i of four, from 0 on
unfoldable pub lane : Lanes → ℕ → ℕ
lane t zero = t.a
lane t (suc zero) = t.b
lane t (suc (suc zero)) = t.c
lane t (suc (suc (suc i))) = t.d
