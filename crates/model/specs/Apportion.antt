-- 'Weights into 65,536ths', along one axis.
use Rattle.std.specs.Prelude.{ℕ, ◌*◌, Bool, cond, ◌&&◌, ◌||◌, List, map, ltb, eqb, ℤ, pos, nat_abs, ◌+ℤ◌, ◌-ℤ◌, ◌*ℤ◌}
use Rattle.std.specs.Int.Signed.{lt_z}
use Rattle.integers.specs.Divide.{floor_div, modulo}
use Rattle.integers.specs.Sum.{sumℤ}
use Rattle.lists.specs.Count.{count}
use Rattle.model.specs.Kernel.{Tap, tap, Kernel, total}

-- a tap's quotient, its weight in 65,536ths rounded down: floor(65,536 a/D)
unfoldable pub quotient : ℕ → Tap → ℤ
quotient D t = floor_div (pos 65536 *ℤ t.weight) D

-- a tap's remainder, what that division leaves over: 0 to D - 1
unfoldable pub remainder : ℕ → Tap → ℕ
remainder D t = modulo (pos 65536 *ℤ t.weight) D

-- the wanted total, floor(65,536 (sum of a)/D + 1/2): here over 2D
unfoldable pub wanted_total : Kernel → ℤ
wanted_total K = floor_div (pos 131072 *ℤ total K.taps +ℤ pos K.divisor) (2 * K.divisor)

-- how many spare units there are: by how much the quotients together fall short of the wanted total
unfoldable pub lacking : Kernel → ℤ
lacking K = wanted_total K -ℤ sumℤ (map (quotient K.divisor) K.taps)

-- how far a tap lies from offset 0
unfoldable pub distance : Tap → ℕ
distance t = nat_abs t.offset

-- whether s lies nearer to offset 0 than t, or just as near and lower
unfoldable pub nearer : Tap → Tap → Bool
nearer s t = ltb (distance s) (distance t) || eqb (distance s) (distance t) && lt_z s.offset t.offset

-- whether s is served before t (request 2026-06): a larger remainder wins, and between equal ones the tap nearer to offset 0
unfoldable pub comes_before : ℕ → Tap → Tap → Bool
comes_before D s t = ltb (remainder D t) (remainder D s) || eqb (remainder D t) (remainder D s) && nearer s t

-- how many taps are served before t
unfoldable pub served_before : Kernel → Tap → ℕ
served_before K t = count (λ s. comes_before K.divisor s t) K.taps

-- whether t gets a spare unit, never more than one: fewer taps are served before it than there are units
unfoldable pub gets_unit : Kernel → Tap → Bool
gets_unit K t = lt_z (pos (served_before K t)) (lacking K)

-- a tap with its weight in 65,536ths
unfoldable pub share : Kernel → Tap → Tap
share K t = tap t.offset (quotient K.divisor t +ℤ pos (cond (gets_unit K t) 1 0))

-- the weights of a kernel in 65,536ths: A of the horizontal one, B of the vertical one
unfoldable pub apportion : Kernel → List Tap
apportion K = map (share K) K.taps

-- whether a tap is rounded: its weight is no whole number of 65,536ths, and leaves a remainder
unfoldable pub rounded : ℕ → Tap → Bool
rounded D t = ltb 0 (remainder D t)

-- how many taps of a kernel are rounded (request 2026-08)
unfoldable pub rounded_taps : Kernel → ℕ
rounded_taps K = count (rounded K.divisor) K.taps
