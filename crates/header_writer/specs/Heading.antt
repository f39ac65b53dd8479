-- The header that is written ('P5 and P6'), and a text that is built in an array.
use Rattle.std.specs.Prelude.{ℕ, zero, suc, ◌+◌, ◌/◌, ◌%◌, ◌≡◌, true, false, cond, List, [], ◌∷◌, ◌++◌, length, take, eqb, ltb}

-- a text in an array: its first bytes, so many
pub record Sized (bytes : List ℕ) (len : ℕ) (text : List ℕ) : Type 0 where
  pub size : len ≡ length text
  pub is : take len bytes ≡ text

-- the decimal digits of n, given more steps than it has digits
unfoldable pub decimal_in : ℕ → ℕ → List ℕ
decimal_in zero n = []
decimal_in (suc steps) n = elim (ltb n 10) [ true ↦ (48 + n) ∷ [] | false ↦ decimal_in steps (n / 10) ++ ((48 + n % 10) ∷ []) ]

-- the decimal digits of n, with no leading zero
unfoldable pub decimal : ℕ → List ℕ
decimal n = decimal_in (suc n) n

-- the first line, with its LF: P5 for one channel, P6 for three
unfoldable pub magic_line : ℕ → List ℕ
magic_line c = 80 ∷ cond (eqb c 1) 53 54 ∷ 10 ∷ []

-- the three lines of a header, each with its LF: the magic; width and height, with one blank between them; 255
unfoldable pub header_bytes : ℕ → ℕ → ℕ → List ℕ
header_bytes w h c = magic_line c ++ decimal w ++ (32 ∷ []) ++ decimal h ++ (10 ∷ 50 ∷ 53 ∷ 53 ∷ 10 ∷ [])
