-- Laws of a header's bytes, for the loops over them. Assumes nothing.
use Prim.Native.Nat.{ℕ, suc, ◌+◌, ◌-◌, ◌*◌, ◌≤◌, ◌<◌, min}
use native.Mathlib.Omega.{arith}
use native.Mathlib.Numerals.{add-one}
use mathlib.Core.Path.{◌≡◌, refl, sym, ap, ◌∙◌}
use mathlib.Core.Bool.{Bool, true, false}
use mathlib.Core.List.{List, [], ◌∷◌}
use lib.ListN.{length, get_or, drop, drop_of_length-le}
use lib.Seq.{drop-cons}
use Rattle.std.specs.Prelude.{Option, Some, None}
use Rattle.text.specs.Text.{gap, is_digit, digits, value_from, value}
use Rattle.text.specs.Step.{step_of}

-- ---- separators

-- what is counted after a step
abbrev pub counted : Option Bool → (Bool → ℕ) → ℕ
counted None rest = 0
counted (Some c) rest = suc (rest c)

gap_cons : (comment : Bool) (b : ℕ) (bytes : List ℕ) → gap comment (b ∷ bytes) ≡ counted (step_of comment b) (λ c. gap c bytes)
unfolding gap step_of
gap_cons true b bytes = refl
gap_cons false b bytes = grind arith

module _ (comment : Bool) (i : ℕ) (bytes : List ℕ) where
  pub gap_step : {s : Option Bool} → i < length bytes → s ≡ step_of comment (get_or bytes i 0) → gap comment (drop i bytes) ≡ counted s (λ c. gap c (drop (i + 1) bytes))
  gap_step l e = rw (drop-cons bytes i 0 l, gap_cons, ← e, add-one)

  pub gap_end : length bytes ≤ i → gap comment (drop i bytes) ≡ 0
  unfolding gap
  gap_end l = rw (drop_of_length-le bytes l)

counted-le : (s : Option Bool) (rest : Bool → ℕ) (n : ℕ) → ((c : Bool) → rest c ≤ n) → counted s rest ≤ suc n
counted-le None rest n h = omega arith
counted-le (Some c) rest n h = omega (arith, h c)

pub gap-le : (comment : Bool) (bytes : List ℕ) → gap comment bytes ≤ length bytes
gap-le comment [] = omega (arith, gap_end comment 0 [] (omega arith))
gap-le comment (b ∷ bytes) = rw gap_cons (counted-le (step_of comment b) (λ c. gap c bytes) (length bytes) (λ c. gap-le c bytes))

-- ---- digits

pub digits_le : (bytes : List ℕ) → length (digits bytes) ≤ length bytes
unfolding digits
digits_le [] = omega arith
digits_le (b ∷ bytes) = grind (arith, digits_le bytes)

-- a number cut at 10,000 before its next digit, and after
cut_once : (n d : ℕ) → min (min n 10000 * 10 + d) 10000 ≡ min (n * 10 + d) 10000
cut_once n d = omega arith

pub cut-value : (n : ℕ) (bytes : List ℕ) → min (value_from (min n 10000) bytes) 10000 ≡ min (value_from n bytes) 10000
unfolding value_from
cut-value n [] = omega arith
cut-value n (b ∷ bytes) =
    sym (cut-value (min n 10000 * 10 + (b - 48)) bytes)
    ∙ ap (λ (k : ℕ). min (value_from k bytes) 10000) (cut_once n (b - 48))
    ∙ cut-value (n * 10 + (b - 48)) bytes

-- the digits that are left at i, after a number n
module _ (n i : ℕ) (bytes : List ℕ) where
  pub digits_more : i < length bytes → is_digit (get_or bytes i 0) ≡ true
      → (min (value_from n (digits (drop i bytes))) 10000 ≡ min (value_from (min (n * 10 + (get_or bytes i 0 - 48)) 10000) (digits (drop (i + 1) bytes))) 10000)
      × (length (digits (drop i bytes)) ≡ 1 + length (digits (drop (i + 1) bytes)))
  unfolding digits value_from
  digits_more l h = (
    rw (drop-cons bytes i 0 l, h, add-one) (sym (cut-value (n * 10 + (get_or bytes i 0 - 48)) (digits (drop (suc i) bytes)))),
    rw (drop-cons bytes i 0 l, h, add-one) (omega arith),
  )

  pub digits_stop : i < length bytes → is_digit (get_or bytes i 0) ≡ false → digits (drop i bytes) ≡ []
  unfolding digits
  digits_stop l e = rw (drop-cons bytes i 0 l, e)

  pub digits_end : length bytes ≤ i → digits (drop i bytes) ≡ []
  unfolding digits
  digits_end l = rw (drop_of_length-le bytes l)

-- where no digit is left, the number is read
pub digits_done : (n i : ℕ) (bytes : List ℕ) → n ≤ 10000 → min (value_from 0 (digits bytes)) 10000 ≡ min (value_from n (digits (drop i bytes))) 10000 → length (digits bytes) ≡ i + length (digits (drop i bytes))
    → digits (drop i bytes) ≡ [] → (n ≡ min (value (digits bytes)) 10000) × (i ≡ length (digits bytes))
unfolding value_from value
digits_done n i bytes h v l e = grind arith

-- what the loops rest on
pub ruleset gap_loop = (gap_step, gap_end)

pub ruleset digits_loop = (digits_more, digits_stop, digits_end, digits_done)
