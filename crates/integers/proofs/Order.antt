-- The order of ℤ by parts, so that `omega` works with it. Assumes nothing.
use Prim.Native.Nat.{◌+◌, ◌<◌}
use native.Mathlib.Omega.{arith}
use lib.Dec.{T, ltb→lt, lt→ltb}
use lib.IntN.{ℤ, pos, negsuc}
use lib.Signed.{lt_z, ◌<ℤ◌}
use Rattle.integers.proofs.Parts.{pos_part, neg_part}

lt_test : (x y : ℤ) → pos_part x + neg_part y < pos_part y + neg_part x → T (lt_z x y)
lt_test (pos a) (pos b) h = lt→ltb a b (omega arith)
lt_test (pos a) (negsuc b) h = absurd (omega arith)
lt_test (negsuc a) (pos b) h = tt
lt_test (negsuc a) (negsuc b) h = lt→ltb b a (omega arith)

pub lt_of_parts : (x y : ℤ) → pos_part x + neg_part y < pos_part y + neg_part x → x <ℤ y
lt_of_parts x y h = record { lt = lt_test x y h }

test_lt : (x y : ℤ) → T (lt_z x y) → pos_part x + neg_part y < pos_part y + neg_part x
test_lt (pos a) (pos b) h = omega (arith, ltb→lt a b h)
test_lt (pos a) (negsuc b) h = absurd h
test_lt (negsuc a) (pos b) h = omega arith
test_lt (negsuc a) (negsuc b) h = omega (arith, ltb→lt b a h)

pub parts_of_lt : {x y : ℤ} → x <ℤ y → pos_part x + neg_part y < pos_part y + neg_part x
parts_of_lt {x} {y} h = test_lt x y h.lt

pub <ℤ-trans : {x y z : ℤ} → x <ℤ y → y <ℤ z → x <ℤ z
<ℤ-trans {x} {y} {z} h k = lt_of_parts x z (omega (arith, parts_of_lt h, parts_of_lt k))
