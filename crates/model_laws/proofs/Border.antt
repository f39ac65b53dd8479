-- The frame rule: a supplied index lies inside the axis, and inside the axis the rule changes nothing. Assumes nothing.
use Prim.Native.Nat.{ℕ, ◌-◌, ◌*◌, ◌≤◌, ◌<◌}
use native.Mathlib.Nat.{lt_of_not-le, mod-eq_of_lt}
use native.Mathlib.Decide.{dec_le}
use native.Mathlib.Omega.{arith}
use mathlib.Core.Path.{◌≡◌, refl, ap}
use mathlib.Core.Bool.{Bool, true, false, cond}
use mathlib.Core.Option.{Option, none, some}
use lib.Dec.{T, ltb, ltb→lt, lt→ltb}
use lib.IntN.{ℤ, pos, negsuc}
use borrow.Author.Tests.{lt-ltb, le-ltb}
use Rattle.integers.proofs.Divide.{divided}
use Rattle.integers.specs.Divide.{modulo}
use Rattle.model.specs.Border.{Border, constant, nearest, mirror, wrap, inside, closest, folded, supply}

abbrev pub Inside : ℕ → Option ℕ → Type 0
Inside n none = Unit {0}
Inside n (some k) = k < n

inside_law : (n : ℕ) (x : ℤ) → Inside n (inside n x)
unfolding inside
inside_law n (pos k) = go (ltb k n) (ltb→lt k n)
  where
    go : (t : Bool) → (T t → k < n) → Inside n (cond t (some k) none)
    go true h = h tt
    go false h = tt
inside_law n (negsuc k) = tt

closest-inside : (n : ℕ) (x : ℤ) → 0 < n → closest n x < n
unfolding closest
closest-inside n (pos k) h = omega arith
closest-inside n (negsuc k) h = h

pub folded_low : {n m : ℕ} → m < n → folded n m ≡ m
unfolding folded
folded_low {n} {m} h = rw (lt-ltb m n h)

pub folded_high : {n m : ℕ} → n ≤ m → folded n m ≡ 2 * n - 1 - m
unfolding folded
folded_high {n} {m} h = rw (le-ltb m n h)

folded-inside : (n m : ℕ) → m < 2 * n → folded n m < n
folded-inside n m h = go (dec_le n m)
  where
    go : Dec (n ≤ m) → folded n m < n
    go (yes k) = omega (arith, folded_high k, h, k)
    go (no k) = omega (arith, folded_low (lt_of_not-le k), lt_of_not-le k)

pub supply-inside : (b : Border) (n : ℕ) (x : ℤ) → 0 < n → Inside n (supply b n x)
unfolding supply
supply-inside constant n x h = inside_law n x
supply-inside nearest n x h = closest-inside n x h
supply-inside mirror n x h = folded-inside n (modulo x (2 * n)) (divided x (2 * n) (omega arith)).small
supply-inside wrap n x h = (divided x n h).small

cond-true : {A : Type 0} (t : Bool) (a b : A) → T t → cond t a b ≡ a
cond-true true a b h = refl
cond-true false a b h = absurd h

pub supply_identity : (b : Border) (n k : ℕ) → k < n → supply b n (pos k) ≡ some k
unfolding supply inside closest modulo
supply_identity constant n k h = cond-true (ltb k n) _ _ (lt→ltb k n h)
supply_identity nearest n k h = ap some (omega arith)
supply_identity mirror n k h = rw (mod-eq_of_lt {n = k} {m = 2 * n} (omega (arith, h))) (ap some (folded_low h))
supply_identity wrap n k h = ap some (mod-eq_of_lt h)
