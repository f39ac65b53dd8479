-- Symmetric taps, and when the spare units split a pair of them (request 2026-06).
use Rattle.std.specs.Prelude.{Bool, ◌&&◌, List, ltb, eqb, length, ℤ, pos, neg_ℤ, nat_abs, ◌-ℤ◌}
use Rattle.std.specs.Int.Signed.{lt_z}
use Rattle.lists.specs.Count.{count}
use Rattle.model.specs.Kernel.{Tap, Kernel}
use Rattle.model.specs.Apportion.{lacking, served_before}

-- whether two whole numbers are the same
unfoldable pub same : ℤ → ℤ → Bool
same x y = eqb (nat_abs (x -ℤ y)) 0

-- whether two taps are opposite: at o and at -o, with the same weight
unfoldable pub opposite : Tap → Tap → Bool
opposite s t = same s.offset (neg_ℤ t.offset) && same s.weight t.weight

-- whether some tap is t's opposite; one at 0 is its own
unfoldable pub has_opposite : List Tap → Tap → Bool
has_opposite ts t = ltb 0 (count (opposite t) ts)

-- whether taps are symmetric: each of them has an opposite among them
unfoldable pub symmetric : List Tap → Bool
symmetric ts = eqb (count (has_opposite ts) ts) (length ts)

-- how many units are left when t's turn comes; 0 or less: none
unfoldable pub units_left : Kernel → Tap → ℤ
units_left K t = lacking K -ℤ pos (served_before K t)

-- whether t and its opposite are a pair that is split: t is at the lower offset, so its turn comes first, and one unit is left then
unfoldable pub split : Kernel → Tap → Bool
split K t = has_opposite K.taps t && (lt_z t.offset (pos 0) && same (units_left K t) (pos 1))

-- whether the kernel's units are dealt without splitting a pair
unfoldable pub unsplit : Kernel → Bool
unsplit K = eqb (count (split K) K.taps) 0
