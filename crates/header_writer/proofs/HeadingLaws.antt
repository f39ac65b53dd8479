-- Laws of decimal digits, and how long a header is, also in its array. Assumes nothing.
use Prim.Native.Nat.{ℕ, zero, suc, ◌+◌, ◌/◌, ◌%◌, ◌^◌, ◌≤◌, ◌<◌}
use native.Mathlib.Nat.{not-suc-le-zero}
use native.Mathlib.Omega.{arith}
use mathlib.Core.Path.{◌≡◌, ap}
use mathlib.Core.List.{List, [], ◌∷◌, ◌++◌}
use lib.ListN.{length, length-append, length-take}
use borrow.Author.Tests.{lt-ltb, le-ltb}
use Rattle.header_writer.specs.Heading.{Sized, decimal_in, decimal, magic_line, header_bytes}

-- ---- decimal digits

-- more steps than digits change nothing
decimal_steps : (s t n : ℕ) → n < s → n < t → decimal_in s n ≡ decimal_in t n
unfolding decimal_in
decimal_steps zero t n h k = absurd (not-suc-le-zero h)
decimal_steps (suc s) zero n h k = absurd (not-suc-le-zero k)
decimal_steps (suc s) (suc t) n h k = grind (arith, decimal_steps s t (n / 10))

pub decimal_small : (n : ℕ) → n < 10 → decimal n ≡ (48 + n) ∷ []
unfolding decimal decimal_in
decimal_small n h = rw (lt-ltb n 10 h, decimal_in)

pub decimal-more : (n : ℕ) → 10 ≤ n → decimal n ≡ decimal (n / 10) ++ ((48 + n % 10) ∷ [])
unfolding decimal decimal_in
decimal-more n h = rw (le-ltb n 10 h, decimal_in) (ap (λ (l : List ℕ). l ++ ((48 + n % 10) ∷ [])) (decimal_steps n (suc (n / 10)) (n / 10) (omega arith) (omega arith)))

-- a number below 10^k has at most k digits
pub decimal-length : (k n : ℕ) → n < 10 ^ suc k → length (decimal n) ≤ suc k
decimal-length zero n h = rw (decimal_small n (omega arith)) (omega arith)
decimal-length (suc k) n h = grind (arith, decimal-length k (n / 10), decimal_small, decimal-more, length-append)

-- a side has at most four digits
pub decimal_few : (n : ℕ) → n ≤ 8192 → length (decimal n) ≤ 4
decimal_few n h = decimal-length 3 n (omega arith)

-- ---- a text in an array

pub sized_fits : {bytes text : List ℕ} {len : ℕ} → Sized bytes len text → len ≤ length bytes
sized_fits {bytes} {len = len} p = omega (arith, p.size, length-take len bytes, ap length p.is)

-- ---- a whole header

pub header-length : (w h c : ℕ) → w ≤ 8192 → h ≤ 8192 → length (header_bytes w h c) ≤ 17
unfolding header_bytes magic_line
header-length w h c a b = simp length-append (omega (arith, decimal_few w a, decimal_few h b))
