-- The order of service by remainders and held offsets.
use Rattle.std.specs.Prelude.{ℕ, ◌+◌, ◌-◌, Bool, ◌&&◌, ◌||◌, ltb, eqb}

-- how far a held offset lies from 15, which stands for offset 0
unfoldable pub distance : ℕ → ℕ
distance o = (o - 15) + (15 - o)

-- whether held offset o lies nearer to 15 than p, or just as near and lower
unfoldable pub nearer : ℕ → ℕ → Bool
nearer o p = ltb (distance o) (distance p) || eqb (distance o) (distance p) && ltb o p

-- whether a tap with remainder r and offset o comes before one with remainder s and offset p
unfoldable pub before : ℕ → ℕ → ℕ → ℕ → Bool
before r o s p = ltb s r || eqb s r && nearer o p
