-- What the patterns of `specs/Bits.antt` say of the floats that the code has. Assumes nothing.
use mathlib.Core.Path.{◌≡◌, refl, sym, ap, ◌∙◌, subst}
use mathlib.Core.Logic.{◌⊎◌, inl, inr}
use Prim.Native.Nat.{ℕ, zero, suc, ◌+◌, ◌-◌, ◌*◌, ◌/◌, ◌%◌, ◌^◌, ◌≤◌, ◌<◌}
use native.Mathlib.Nat.{add-zero, eq-zero-or-pos, mul-one, mul_assoc, lt_of_le_of_lt, lt_of_lt_of_le, lt_of_not-le, le_of_eq, le_trans, not-le_of_lt, mul-le-mul_right, le_of_mul-le-mul_right, mul-div_cancel, mod-lt}
use native.Mathlib.Omega.{arith}
use native.Mathlib.Decide.{dec_le}
use mathlib.Core.Bool.{Bool, true, false, not, ◌&&◌, ◌||◌, beq, cond}
use lib.IntN.{pos, neg_ℤ, nat_abs}
use lib.Dec.{T, ltb, leb, eqb, lit<, lit≤, eqb→eq, leb→le, eqb-suc-zero}
use lib.Pow.{pow-add, pow_mono, shl_lt}
use lib.Ieee.{Float, nan, inf, fin, Format, binary32, binary64, prec, emax, low, below, level, eq, le, neg, mul, in_signed, is_nan, of_fields, of_bits, to_bits, to_signed}
use lib.Ieee.Fits.{and_l, and_r}
use lib.Ieee.Bits.{cond_no, to_bits-of_bits}
use lib.Ieee.Exact.{HasValue, odd_sign}
use borrow.Author.Tests.{ltb-true, ltb-false, eqb-true, eqb-false, le-leb, lt-leb, eq-eqb, ne_eqb}
use Rattle.weights.specs.Bits.{negative, exponent, fraction, units, accepted, numerator_bits}
use Rattle.weights.specs.Weight.{in_range, usable, numerator_of}
use Rattle.weights.specs.declared.Weight.TheVariants.{Real}
use Rattle.weights.proofs.Value.{eq-values, le-values, rescale, scaled, cast_whole, as_whole}

-- ---- the value of a pattern that is neither an infinity's nor a NaN's
fields_value : (s : Bool) (x t : ℕ) → T (not (eqb x 255)) → HasValue (of_fields binary32 s x t) s (cond (eqb x 0) t ((2 ^ 23 + t) * 2 ^ (x - 1))) (2 ^ 149)
unfolding of_fields
fields_value s zero t h = subst (λ (z : ℕ). HasValue (of_fields binary32 s 0 t) s z (2 ^ 149)) (mul-one t) (odd_sign 24 s t 0 149)
fields_value s (suc x) t h =
    rw (eqb-suc-zero x, cond_no (eqb (suc x) 255) (cond (eqb t 0) (inf s) nan) (lib.Ieee.odd 24 s (2 ^ 23 + t) x 149) h, back x) (odd_sign 24 s (2 ^ 23 + t) x 149)
  where
    back : (x : ℕ) → suc x - 1 ≡ x
    back x = omega arith

pub value : (b : ℕ) → T (not (eqb (exponent b) 255)) → HasValue (of_bits binary32 b) (negative b) (units b) (2 ^ 149)
unfolding of_bits units
value b h = fields_value (negative b) (exponent b) (fraction b) h

-- ---- an accepted pattern
fits24 : (b : ℕ) → 2 ^ 23 + fraction b < 2 ^ 24
fits24 b = omega arith

finite : (b : ℕ) → T (accepted b) → T (not (eqb (exponent b) 255))
unfolding accepted
finite b t = and_l (not (eqb (exponent b) 255)) (eqb (units b) 0 || (leb (2 ^ 137) (units b) && leb (units b) (2 ^ 151))) t

or_cases : (p q : Bool) → T (p || q) → T p ⊎ T q
or_cases true q t = inl tt
or_cases false q t = inr t

in_units : (b : ℕ) → T (accepted b) → (units b ≡ 0) ⊎ ((2 ^ 137 ≤ units b) × (units b ≤ 2 ^ 151))
unfolding accepted
in_units b t =
    let u = units b in
    elim (or_cases (eqb u 0) (leb (2 ^ 137) u && leb u (2 ^ 151)) (and_r (not (eqb (exponent b) 255)) (eqb u 0 || (leb (2 ^ 137) u && leb u (2 ^ 151))) t)) [
      | inl z ↦ inl (eqb→eq u 0 z)
      | inr w ↦ inr (leb→le (2 ^ 137) u (and_l (leb (2 ^ 137) u) (leb u (2 ^ 151)) w), leb→le u (2 ^ 151) (and_r (leb (2 ^ 137) u) (leb u (2 ^ 151)) w))
    ]

-- a number of at least 2 ^ 137 units has an exponent's field of 115 or more
high : (b : ℕ) → 2 ^ 137 ≤ units b → (115 ≤ exponent b) × (units b ≡ (2 ^ 23 + fraction b) * 2 ^ (exponent b - 115) * 2 ^ 114)
unfolding units
high b h = go (exponent b) h
  where
    go : (x : ℕ) → 2 ^ 137 ≤ cond (eqb x 0) (fraction b) ((2 ^ 23 + fraction b) * 2 ^ (x - 1))
        → (115 ≤ x) × (cond (eqb x 0) (fraction b) ((2 ^ 23 + fraction b) * 2 ^ (x - 1)) ≡ (2 ^ 23 + fraction b) * 2 ^ (x - 115) * 2 ^ 114)
    go zero h = absurd (not-le_of_lt (lt_of_lt_of_le (mod-lt b {m = 2 ^ 23} (lit< tt)) (lit≤ {m = 2 ^ 23} {n = 2 ^ 137} tt)) h)
    go (suc x) h =
        let g : 2 ^ 137 ≤ (2 ^ 23 + fraction b) * 2 ^ (suc x - 1) = rw (eqb-suc-zero x) at h in
        let l : 115 ≤ suc x = lt_of_not-le (λ (z : suc x ≤ 114). not-le_of_lt (low x z) g) in
        (l, rw (eqb-suc-zero x) (ap (λ (z : ℕ). (2 ^ 23 + fraction b) * 2 ^ z) (split x l) ∙ ap (λ (z : ℕ). (2 ^ 23 + fraction b) * z) (pow-add 2 (suc x - 115) 114) ∙ sym (mul_assoc (2 ^ 23 + fraction b) (2 ^ (suc x - 115)) (2 ^ 114))))
      where
        split : (x : ℕ) → 115 ≤ suc x → suc x - 1 ≡ suc x - 115 + 114
        split x l = omega arith

        under : (x : ℕ) → suc x ≤ 114 → suc x - 1 ≤ 113
        under x l = omega arith

        low : (x : ℕ) → suc x ≤ 114 → (2 ^ 23 + fraction b) * 2 ^ (suc x - 1) < 2 ^ 137
        low x z = lt_of_lt_of_le (shl_lt 24 (suc x - 1) (fits24 b)) (pow_mono {i = 24 + (suc x - 1)} {j = 137} (omega (arith, under x z)))

-- An accepted pattern is q * 2 ^ j over 2 ^ 35, with a q of 24 bits.
pub record Shape (b : ℕ) : Type 0 where
  pub q : ℕ
  pub j : ℕ
  pub digits : q < 2 ^ 24
  pub whole : units b ≡ q * 2 ^ j * 2 ^ 114
  pub most : q * 2 ^ j ≤ 2 ^ 37

pub shape : (b : ℕ) → T (accepted b) → Shape b
shape b t = elim (in_units b t) [
  | inl z ↦ record { q = 0; j = 0; digits = lit< tt; whole = z; most = lit≤ tt }
  | inr w ↦
      let e = (high b w.0).1 in
      record {
        q = 2 ^ 23 + fraction b;
        j = exponent b - 115;
        digits = fits24 b;
        whole = e;
        most = le_of_mul-le-mul_right {k = 2 ^ 114} (le_trans (le_of_eq (sym e)) w.1) (lit< tt);
      }
]

-- ---- the numerator is exact, and is the one of IEEE 754's formula
pub exact : (b : ℕ) → T (accepted b) → units b / 2 ^ 114 * 2 ^ 114 ≡ units b
exact b t =
    let r = shape b t in
    ap (λ (z : ℕ). z / 2 ^ 114 * 2 ^ 114) r.whole ∙ ap (λ (z : ℕ). z * 2 ^ 114) (mul-div_cancel (r.q * 2 ^ r.j) (lit< {m = 0} {n = 2 ^ 114} tt)) ∙ sym r.whole

pub formula : (b : ℕ) → T (accepted b) → (units b ≡ 0 → ⊥) → (115 ≤ exponent b) × (units b / 2 ^ 114 ≡ (2 ^ 23 + fraction b) * 2 ^ (exponent b - 115))
formula b t n = elim (in_units b t) [
  | inl z ↦ absurd (n z)
  | inr w ↦ ((high b w.0).0, ap (λ (z : ℕ). z / 2 ^ 114) (high b w.0).1 ∙ mul-div_cancel ((2 ^ 23 + fraction b) * 2 ^ (exponent b - 115)) (lit< {m = 0} {n = 2 ^ 114} tt))
]

pub bounded : (b : ℕ) → T (accepted b) → units b / 2 ^ 114 ≤ 2 ^ 37
bounded b t =
    let r = shape b t in
    le_trans (le_of_eq (ap (λ (z : ℕ). z / 2 ^ 114) r.whole ∙ mul-div_cancel (r.q * 2 ^ r.j) (lit< {m = 0} {n = 2 ^ 114} tt))) r.most

-- it is the float's value over 2 ^ 35
pub real_value : (b : ℕ) → T (accepted b) → HasValue (of_bits binary32 b) (negative b) (units b / 2 ^ 114) (2 ^ 35)
real_value b t =
    rescale (of_bits binary32 b) (negative b) (units b) (2 ^ 149) (units b / 2 ^ 114) (2 ^ 35) (lit< tt)
    (ap (λ (z : ℕ). z * 2 ^ 35) (sym (exact b t)) ∙ mul_assoc (units b / 2 ^ 114) (2 ^ 114) (2 ^ 35))
    (value b (finite b t))

-- ---- the tests in f32
le_test : (a b : ℕ) → (ltb a b || (eqb a b && true)) ≡ leb a b
le_test a b = go (ltb a b) (eqb a b) refl refl
  where
    go : (p q : Bool) → ltb a b ≡ p → eqb a b ≡ q → (p || (q && true)) ≡ leb a b
    go true q e f = sym (le-leb a b (omega (arith, ltb-true a b e)))
    go false true e f = sym (le-leb a b (omega (arith, eqb-true a b f)))
    go false false e f = sym (lt-leb a b (omega (arith, ltb-false a b e, eqb-false a b f)))

eqb-sym : (a b : ℕ) → eqb a b ≡ eqb b a
eqb-sym a b = go (eqb b a) refl
  where
    go : (q : Bool) → eqb b a ≡ q → eqb a b ≡ q
    go true e = eq-eqb a b (sym (eqb-true b a e))
    go false e = ne_eqb a b (λ h. eqb-false b a e (sym h))

ge_test : (a b : ℕ) → (ltb a b || (eqb b a && true)) ≡ leb a b
ge_test a b = ap (λ (z : Bool). ltb a b || (z && true)) (eqb-sym b a) ∙ le_test a b

positive_tests : (z a b i y : Bool) → cond (z && true) true (cond a b (cond (false || (i && (false || z))) y false)) ≡ (z || (a && b))
positive_tests true a b i y = refl
positive_tests false true b i y = refl
positive_tests false false b true y = refl
positive_tests false false b false y = refl

negative_tests : (z a b i y : Bool) → cond (z && (false || z)) true (cond (false || (i && false)) y (cond a b false)) ≡ (z || (a && b))
negative_tests true a b i y = refl
negative_tests false true b true y = refl
negative_tests false true b false y = refl
negative_tests false false b true y = refl
negative_tests false false b false y = refl

-- the tests of a value of u units
abbrev tested : Bool → ℕ → Bool
tested s u =
    cond (level s u false 0) true
    (cond (below false (2 ^ 137) s u || level false (2 ^ 137) s u) (below s u false (2 ^ 151) || level s u false (2 ^ 151))
    (cond (below s u true (2 ^ 137) || level s u true (2 ^ 137)) (below true (2 ^ 151) s u || level true (2 ^ 151) s u) false))

tested-is : (s : Bool) (u : ℕ) → tested s u ≡ (eqb u 0 || (leb (2 ^ 137) u && leb u (2 ^ 151)))
tested-is false u =
    let a = ltb (2 ^ 137) u || (eqb (2 ^ 137) u && true) in
    let b = ltb u (2 ^ 151) || (eqb u (2 ^ 151) && true) in
    positive_tests (eqb u 0) a b (eqb u (2 ^ 137)) (below true (2 ^ 151) false u || level true (2 ^ 151) false u)
    ∙ ap (λ (z : Bool). eqb u 0 || (z && b)) (le_test (2 ^ 137) u)
    ∙ ap (λ (z : Bool). eqb u 0 || (leb (2 ^ 137) u && z)) (le_test u (2 ^ 151))
tested-is true u =
    let a = ltb (2 ^ 137) u || (eqb u (2 ^ 137) && true) in
    let b = ltb u (2 ^ 151) || (eqb (2 ^ 151) u && true) in
    negative_tests (eqb u 0) a b (eqb (2 ^ 137) u) (below true u false (2 ^ 151) || level true u false (2 ^ 151))
    ∙ ap (λ (z : Bool). eqb u 0 || (z && b)) (ge_test (2 ^ 137) u)
    ∙ ap (λ (z : Bool). eqb u 0 || (leb (2 ^ 137) u && z)) (ge_test u (2 ^ 151))

zero-value : HasValue (of_bits binary32 0) false 0 (2 ^ 149)
unfolding of_bits
zero-value = (refl, refl)

low_value : HasValue (of_bits binary32 0x39800000) false (2 ^ 137) (2 ^ 149)
unfolding of_bits
low_value = (refl, refl)

high_value : HasValue (of_bits binary32 0x40800000) false (2 ^ 151) (2 ^ 149)
unfolding of_bits
high_value = (refl, refl)

minus-low-value : HasValue (neg (of_bits binary32 0x39800000)) true (2 ^ 137) (2 ^ 149)
unfolding of_bits neg
minus-low-value = (refl, refl)

minus_high_value : HasValue (neg (of_bits binary32 0x40800000)) true (2 ^ 151) (2 ^ 149)
unfolding of_bits neg
minus_high_value = (refl, refl)

in_range_value : (x : Float) (s : Bool) (u : ℕ) → HasValue x s u (2 ^ 149) → in_range x ≡ (eqb u 0 || (leb (2 ^ 137) u && leb u (2 ^ 151)))
unfolding in_range
in_range_value x s u v =
    let C : 0 < 2 ^ 149 = lit< tt in
    rw (
      eq-values x (of_bits binary32 0) s false u 0 (2 ^ 149) C v zero-value,
      le-values (of_bits binary32 0x39800000) x false s (2 ^ 137) u (2 ^ 149) C low_value v,
      le-values x (of_bits binary32 0x40800000) s false u (2 ^ 151) (2 ^ 149) C v high_value,
      le-values x (neg (of_bits binary32 0x39800000)) s true u (2 ^ 137) (2 ^ 149) C v minus-low-value,
      le-values (neg (of_bits binary32 0x40800000)) x true s (2 ^ 151) u (2 ^ 149) C minus_high_value v,
    )
    (tested-is s u)

in_range_inf : (s : Bool) → in_range (inf s) ≡ false
unfolding in_range eq le of_bits neg
in_range_inf true = refl
in_range_inf false = refl

inf_bits : (b : ℕ) → exponent b ≡ 255 → fraction b ≡ 0 → of_bits binary32 b ≡ inf (negative b)
unfolding of_bits of_fields
inf_bits b p q = ap (λ (z : ℕ). of_fields binary32 (negative b) z (fraction b)) p ∙ ap (λ (z : ℕ). of_fields binary32 (negative b) 255 z) q

accepted-is : (b : ℕ) (e : Bool) → eqb (exponent b) 255 ≡ e → accepted b ≡ (not e && (eqb (units b) 0 || (leb (2 ^ 137) (units b) && leb (units b) (2 ^ 151))))
unfolding accepted
accepted-is b e p = ap (λ (z : Bool). not z && (eqb (units b) 0 || (leb (2 ^ 137) (units b) && leb (units b) (2 ^ 151)))) p

-- a pattern that is not a NaN's: the tests in f32 accept what is accepted
pub in_range_bits : (b : ℕ) → b % 2147483648 ≤ 2139095040 → in_range (of_bits binary32 b) ≡ accepted b
in_range_bits b h = go (eqb (exponent b) 255) refl
  where
    no_fraction : b % 2147483648 / 8388608 ≡ 255 → b % 8388608 ≡ 0
    no_fraction p = omega arith

    go : (e : Bool) → eqb (exponent b) 255 ≡ e → in_range (of_bits binary32 b) ≡ accepted b
    go true e =
        let p = eqb-true (exponent b) 255 e in
        ap in_range (inf_bits b p (no_fraction p)) ∙ in_range_inf (negative b) ∙ sym (accepted-is b true e)
    go false e =
        in_range_value (of_bits binary32 b) (negative b) (units b) (value b (subst (λ (z : Bool). T (not z)) (sym e) tt)) ∙ sym (accepted-is b false e)

-- and a NaN's is not accepted
pub nan-refused : (b : ℕ) → 2139095040 < b % 2147483648 → accepted b ≡ false
nan-refused b h = accepted-is b true (eq-eqb (exponent b) 255 (omega arith))

-- ---- scaled by 2 ^ 35 in a format that has 24 digits and reaches far enough, an accepted pattern is its numerator
add-up : (j d : ℕ) → j + 114 + 35 + d ≡ j + (149 + d)
add-up j d = omega arith

scaled_in : (f : Format) (d : ℕ) → low f ≡ 149 + d → 24 ≤ prec f → 2 ^ 37 * 2 ^ (149 + d) < 2 ^ (low f + suc (emax f))
    → (b : ℕ) → T (accepted b) → HasValue (mul f (of_bits binary32 b) (fin false 1 (pos 35))) (negative b) (units b / 2 ^ 114) 1
scaled_in f d L P F b t =
    let r = shape b t in
    let n = r.q * 2 ^ r.j in
    let j = r.j + 114 in
    let joined : (k : ℕ) → n * 2 ^ k ≡ r.q * 2 ^ (r.j + k) = λ k. mul_assoc r.q (2 ^ r.j) (2 ^ k) ∙ ap (λ (z : ℕ). r.q * z) (sym (pow-add 2 r.j k)) in
    let at : (k : ℕ) → r.q * 2 ^ (j + 35 + k) ≡ n * 2 ^ (149 + k) = λ k. ap (λ (z : ℕ). r.q * 2 ^ z) (add-up r.j k) ∙ sym (joined (149 + k)) in
    let v : HasValue (of_bits binary32 b) (negative b) (r.q * 2 ^ j) (2 ^ 149) =
    subst (λ (z : ℕ). HasValue (of_bits binary32 b) (negative b) z (2 ^ 149)) (r.whole ∙ joined 114) (value b (finite b t)) in
    let N : units b / 2 ^ 114 ≡ n = ap (λ (z : ℕ). z / 2 ^ 114) r.whole ∙ mul-div_cancel n (lit< {m = 0} {n = 2 ^ 114} tt) in
    rescale (mul f (of_bits binary32 b) (fin false 1 (pos 35))) (negative b) (r.q * 2 ^ (j + 35)) (2 ^ 149) (units b / 2 ^ 114) 1 (lit< tt)
    (mul-one (r.q * 2 ^ (j + 35)) ∙ ap (λ (z : ℕ). r.q * 2 ^ z) (sym (add-zero (j + 35))) ∙ at 0 ∙ ap (λ (z : ℕ). z * 2 ^ 149) (sym N))
    (scaled f (of_bits binary32 b) (negative b) r.q j 35 149 d L (lt_of_lt_of_le r.digits (pow_mono P)) (lt_of_le_of_lt (le_trans (le_of_eq (at d)) (mul-le-mul_right (2 ^ (149 + d)) r.most)) F) v)

pub scaled_wide : (b : ℕ) → T (accepted b) → HasValue (mul binary64 (of_bits binary32 b) (fin false 1 (pos 35))) (negative b) (units b / 2 ^ 114) 1
scaled_wide = scaled_in binary64 925 refl (lit≤ tt) (lit< tt)

small : (n : ℕ) → n ≤ 2 ^ 37 → n < 2 ^ 63
small n h = lt_of_le_of_lt h (lit< tt)

-- ---- in f64, with Rattle's own `as i64`: all but zero
units-none : (b : ℕ) → T (accepted b) → eq (of_bits binary32 b) (of_bits binary32 0) ≡ true → units b ≡ 0
units-none b t e = go (units b) (negative b) (sym (eq-values (of_bits binary32 b) (of_bits binary32 0) (negative b) false (units b) 0 (2 ^ 149) (lit< tt) (value b (finite b t)) zero-value) ∙ e)
  where
    go : (u : ℕ) (s : Bool) → (eqb u 0 && (beq s false || eqb u 0)) ≡ true → u ≡ 0
    go u s e = eqb→eq u 0 (and_l (eqb u 0) (beq s false || eqb u 0) (subst T (sym e) tt))

units-some : (b : ℕ) → T (accepted b) → eq (of_bits binary32 b) (of_bits binary32 0) ≡ false → units b ≡ 0 → ⊥
units-some b t e z = go (units b) (negative b) z (sym (eq-values (of_bits binary32 b) (of_bits binary32 0) (negative b) false (units b) 0 (2 ^ 149) (lit< tt) (value b (finite b t)) zero-value) ∙ e)
  where
    none : (s : Bool) → (true && (beq s false || true)) ≡ false → ⊥
    none true e = subst T e tt
    none false e = subst T e tt

    go : (u : ℕ) (s : Bool) → u ≡ 0 → (eqb u 0 && (beq s false || eqb u 0)) ≡ false → ⊥
    go u s z e = none s (subst (λ (y : Bool). (y && (beq s false || y)) ≡ false) (eq-eqb u 0 z) e)

pub as_none : (b : ℕ) → T (accepted b) → eq (of_bits binary32 b) (of_bits binary32 0) ≡ true → numerator_bits b ≡ pos 0
unfolding numerator_bits
as_none b t e = ap (λ (z : ℕ). cond (negative b) (neg_ℤ (pos (z / 2 ^ 114))) (pos (z / 2 ^ 114))) (units-none b t e) ∙ either (negative b)
  where
    either : (s : Bool) → cond s (neg_ℤ (pos 0)) (pos 0) ≡ pos 0
    either true = refl
    either false = refl

pub as_bits : (b : ℕ) → T (accepted b) → eq (of_bits binary32 b) (of_bits binary32 0) ≡ false → T (in_signed binary64 63 (mul binary64 (of_bits binary32 b) (fin false 1 (pos 35))))
as_bits b t e =
    as_whole (mul binary64 (of_bits binary32 b) (fin false 1 (pos 35))) (negative b) (units b / 2 ^ 114) positive (le_trans (bounded b t) (lit≤ tt)) (scaled_wide b t)
  where
    positive : 0 < units b / 2 ^ 114
    positive = elim (eq-zero-or-pos (units b / 2 ^ 114)) [
      | inl z ↦ absurd (units-some b t e (sym (exact b t) ∙ ap (λ (k : ℕ). k * 2 ^ 114) z))
      | inr p ↦ p
    ]

pub cast_wide : (b : ℕ) → T (accepted b) → to_signed 63 (mul binary64 (of_bits binary32 b) (fin false 1 (pos 35))) ≡ numerator_bits b
unfolding numerator_bits
cast_wide b t = cast_whole (mul binary64 (of_bits binary32 b) (fin false 1 (pos 35))) (negative b) (units b / 2 ^ 114) (small (units b / 2 ^ 114) (bounded b t)) (scaled_wide b t)

-- ---- the float of an accepted pattern is a weight that can be used, and has that pattern's numerator

no_nan : (x : Float) (s : Bool) (a c : ℕ) → HasValue x s a c → T (not (is_nan x))
unfolding is_nan
no_nan nan s a c v = v
no_nan (inf t) s a c v = tt
no_nan (fin t m e) s a c v = tt

pub not-nan : (b : ℕ) → T (accepted b) → T (not (is_nan (of_bits binary32 b)))
not-nan b t = no_nan (of_bits binary32 b) (negative b) (units b) (2 ^ 149) (value b (finite b t))

back_to_bits : (b : ℕ) → b < 2 ^ 32 → T (accepted b) → to_bits binary32 (of_bits binary32 b) ≡ b
back_to_bits b h t = to_bits-of_bits binary32 b h (not-nan b t)

pub real_usable : (b : ℕ) → b < 2 ^ 32 → T (accepted b) → T (usable (Real (of_bits binary32 b)))
real_usable b h t = subst (λ (z : ℕ). T (accepted z)) (sym (back_to_bits b h t)) t

pub real_numerator : (b : ℕ) → b < 2 ^ 32 → T (accepted b) → numerator_of (Real (of_bits binary32 b)) ≡ numerator_bits b
real_numerator b h t = ap numerator_bits (back_to_bits b h t)

pub accepted_no_nan : (b : ℕ) → T (accepted b) → b % 2147483648 ≤ 2139095040
accepted_no_nan b t = go (dec_le (b % 2147483648) 2139095040)
  where
    go : Dec (b % 2147483648 ≤ 2139095040) → b % 2147483648 ≤ 2139095040
    go (yes h) = h
    go (no h) = absurd (subst T (nan-refused b (lt_of_not-le h)) t)

pub numerator_small : (b : ℕ) → T (accepted b) → nat_abs (numerator_bits b) ≤ 137438953472
unfolding numerator_bits
numerator_small b t = go (negative b) (units b / 2 ^ 114) (bounded b t)
  where
    go : (s : Bool) (u : ℕ) → u ≤ 137438953472 → nat_abs (cond s (neg_ℤ (pos u)) (pos u)) ≤ 137438953472
    go true zero h = h
    go true (suc u) h = h
    go false u h = h
