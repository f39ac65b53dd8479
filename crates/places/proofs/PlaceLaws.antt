-- The frame rule on places held 15 too large, border by border. Assumes nothing.
use Prim.Native.Nat.{ℕ, suc, ◌+◌, ◌-◌, ◌*◌, ◌/◌, ◌%◌, ◌≤◌, ◌<◌, min}
use native.Mathlib.Nat.{lt_of_not-le, le_trans, div-le_self, mod-lt, mod-eq_of_lt, div-add-mod, add-mul-mod_self_left}
use native.Mathlib.Omega.{arith}
use native.Mathlib.Decide.{dec_le}
use mathlib.Core.Path.{◌≡◌, refl, sym, ap, ◌∙◌}
use mathlib.Core.Option as Math
use lib.IntN.{pos, negsuc}
use borrow.Author.Tests.{lt-ltb, le-ltb}
use Rattle.std.proofs.Common.{Some, None}
use Rattle.std.proofs.lemmas.Option.{same_Some, none-some}
use Rattle.integers.specs.Divide.{modulo}
use Rattle.integers.proofs.Parts.{parts_ext, sub_parts}
use Rattle.model.specs.Border.{constant, mirror, inside, closest, folded, supply}
use Rattle.model_laws.proofs.Border.{Inside}
use Rattle.model_laws.proofs.Mirror.{mirror_below}
use Rattle.stage_values.specs.Place.{offset_of}
use Rattle.places.specs.Supplied.{place_of}

-- a place before the frame's first, and one from it on
before : (x : ℕ) → x < 15 → offset_of x ≡ negsuc (14 - x)
unfolding offset_of
before x h = parts_ext _ _ (omega (arith, sub_parts (pos x) (pos 15)))

pub from : (x : ℕ) → 15 ≤ x → offset_of x ≡ pos (x - 15)
unfolding offset_of
from x h = parts_ext _ _ (omega (arith, sub_parts (pos x) (pos 15)))

-- ---- each border, by where the place is

module _ (n x : ℕ) where
  pub constant_before : x < 15 → place_of (supply constant n (offset_of x)) ≡ None
  unfolding supply inside place_of
  constant_before h = rw (before x h)

  pub constant_in : 15 ≤ x → x - 15 < n → place_of (supply constant n (offset_of x)) ≡ Some (x - 15)
  unfolding supply inside place_of
  constant_in h k = rw (from x h, lt-ltb (x - 15) n k)

  pub constant_after : 15 ≤ x → n ≤ x - 15 → place_of (supply constant n (offset_of x)) ≡ None
  unfolding supply inside place_of
  constant_after h k = rw (from x h, le-ltb (x - 15) n k)

  pub nearest_any : closest n (offset_of x) ≡ min (x - 15) (n - 1)
  unfolding closest
  nearest_any = go (dec_le 15 x)
    where
      go : Dec (15 ≤ x) → closest n (offset_of x) ≡ min (x - 15) (n - 1)
      go (yes h) = rw (from x h)
      go (no h) = rw (before x (lt_of_not-le h)) (omega (arith, lt_of_not-le h))

  pub mirror_before : 0 < n → x < 15 → folded n (modulo (offset_of x) (2 * n)) ≡ folded n ((14 - x) % (2 * n))
  unfolding supply modulo
  mirror_before h k = Math.some-injective _ _ (ap (supply mirror n) (before x k) ∙ mirror_below n h (14 - x))

  pub mirror_from : 15 ≤ x → folded n (modulo (offset_of x) (2 * n)) ≡ folded n ((x - 15) % (2 * n))
  unfolding modulo
  mirror_from k = rw (from x k)

  -- 15 (n - 1) is -15 and 15 times n
  pub wrap_any : 0 < n → modulo (offset_of x) n ≡ (x + 15 * (n - 1)) % n
  unfolding modulo
  wrap_any h = go (dec_le 15 x)
    where
      inner : (q r : ℕ) → x + 15 * (n - 1) ≡ r + n * q → (x + 15 * (n - 1)) % n ≡ r % n
      inner q r e = rw (e, add-mul-mod_self_left)

      go : Dec (15 ≤ x) → modulo (offset_of x) n ≡ (x + 15 * (n - 1)) % n
      go (yes k) = rw (from x k) (sym (inner 15 (x - 15) (omega arith)))
      go (no k) =
          let a = 14 - x in
          let small : a % n < n = mod-lt a h in
          let q = a / n in
          let below : q ≤ 14 = le_trans (div-le_self a n) (omega arith) in
          let split : q + (14 - q) ≡ 14 = omega (arith, below) in
          let e : x + 15 * (n - 1) ≡ (n - suc (a % n)) + n * (14 - q) = omega (arith, small, lt_of_not-le k, div-add-mod a n, ap (λ (m : ℕ). n * m) split) in
          rw (before x (lt_of_not-le k)) (sym (inner (14 - q) (n - suc (a % n)) e ∙ mod-eq_of_lt (omega (arith, small))))

-- ---- what a place is

-- an index that is supplied, which lies inside
pub place_some : {u : ℕ} (o : Math.Option ℕ) → Some u ≡ place_of o → o ≡ Math.some u
unfolding place_of
place_some Math.none e = absurd (none-some _ (sym e))
place_some (Math.some k) e = ap Math.some (sym (same_Some _ _ e))

pub place_inside : {n u : ℕ} (o : Math.Option ℕ) → Inside n o → Some u ≡ place_of o → u < n
unfolding place_of
place_inside Math.none i e = absurd (none-some _ (sym e))
place_inside (Math.some k) i e = rw (same_Some _ _ e) i

-- or the border value's place
pub place_none : (o : Math.Option ℕ) → None ≡ place_of o → o ≡ Math.none
unfolding place_of
place_none Math.none e = refl
place_none (Math.some k) e = absurd (none-some k e)
