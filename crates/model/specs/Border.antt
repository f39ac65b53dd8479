-- 'Outside the frame', the frame rule, on one axis of length n, columns or rows: the index inside that is supplied for any index.
use Rattle.std.specs.Prelude.{ℕ, ◌*◌, ◌-◌, min, cond, ltb, ℤ, pos, negsuc}
use Rattle.std.proofs.Math.Option.{Option, none, some}
use Rattle.integers.specs.Divide.{modulo}

-- the four borders, with the numbers 0 to 3 in this order
pub data Border : Type 0 where
  constant nearest mirror wrap : Border

-- the index itself where it is inside
unfoldable pub inside : ℕ → ℤ → Option ℕ
inside n (pos k) = cond (ltb k n) (some k) none
inside n (negsuc k) = none

-- nearest: the index itself, or the end of the axis that it lies beyond
unfoldable pub closest : ℕ → ℤ → ℕ
closest n (pos k) = min k (n - 1)
closest n (negsuc k) = 0

-- mirror, of 0 to 2n - 1: from n on they become 2n - 1 less themselves and run back, so the edge sample comes twice in a row
unfoldable pub folded : ℕ → ℕ → ℕ
folded n m = cond (ltb m n) m (2 * n - 1 - m)

-- the index that stands in for x on this axis; none stands for the border value. Mirror has period 2n, and wrap n
unfoldable pub supply : Border → ℕ → ℤ → Option ℕ
supply constant n x = inside n x
supply nearest n x = some (closest n x)
supply mirror n x = some (folded n (modulo x (2 * n)))
supply wrap n x = some (modulo x n)
