-- Whole numbers that are held as naturals, some bias too large. Assumes nothing.
use Prim.Native.Nat.{ℕ, ◌+◌, ◌*◌, ◌/◌, ◌%◌, ◌<◌, ◌≤◌}
use native.Mathlib.Nat.{div-add-mod, mod-lt, div-lt_iff_lt-mul}
use native.Mathlib.Omega.{arith}
use mathlib.Core.Path.{◌≡◌, ap}
use lib.IntN.{ℤ, pos, nat_abs, ◌+ℤ◌, ◌-ℤ◌, ◌*ℤ◌}
use Rattle.integers.specs.Divide.{floor_div, modulo}
use Rattle.integers.proofs.Parts.{pos_part, neg_part, parts_ext, add_parts, sub_parts, mul-parts, abs_parts}
use Rattle.integers.proofs.Divide.{Divided, divided, divided_unique}
use Rattle.numerators.specs.Numerator.{numerator_of}

-- z over m, where v is z and k times m more
module _ (z : ℤ) (m k v : ℕ) (h : 0 < m) (e : pos v ≡ z +ℤ pos (k * m)) where
  shifted : Divided z m (pos (v / m) -ℤ pos k) (v % m)
  shifted = record {
    whole =
        omega (
          arith,
          div-add-mod v m,
          ap (λ (n : ℕ). m * n) (sub_parts (pos (v / m)) (pos k)).sum,
          add_parts z (pos (k * m)),
          ap pos_part e,
          ap neg_part e,
        );
    small = mod-lt v h;
  }

  pub floor_biased : floor_div z m ≡ pos (v / m) -ℤ pos k
  floor_biased = (divided_unique (divided z m h) shifted).0

  pub modulo_biased : modulo z m ≡ v % m
  modulo_biased = (divided_unique (divided z m h) shifted).1

-- a raised numerator is at most 2^19 times the divisor
pub raised_le : (r v d : ℕ) → nat_abs (numerator_of v) ≤ 4 * d → pos r ≡ pos 65536 *ℤ numerator_of v +ℤ pos (262144 * d) → r ≤ 524288 * d
raised_le r v d h e =
    omega (
      arith,
      abs_parts (numerator_of v),
      mul-parts (pos 65536) (numerator_of v),
      add_parts (pos 65536 *ℤ numerator_of v) (pos (262144 * d)),
      ap pos_part e,
    )

pub quotient_le : (r d : ℕ) → 0 < d → r ≤ 524288 * d → r / d ≤ 524288
quotient_le r d h l = let k : r / d < 524289 = (div-lt_iff_lt-mul h).1 (omega arith) in omega arith

-- a share: the quotient, 2^18 too large, and a unit
pub share-is : (q : ℤ) (k u : ℕ) → q ≡ pos k -ℤ pos 262144 → pos (k + u) -ℤ pos 262144 ≡ q +ℤ pos u
share-is q k u e = rw e (parts_ext _ _ (omega (arith, sub_parts (pos (k + u)) (pos 262144), sub_parts (pos k) (pos 262144), add_parts (pos k -ℤ pos 262144) (pos u))))
