-- Numbers in a recipe's bytes ('Recipe bytes'): the highest byte comes first.
use Rattle.std.specs.Prelude.{ℕ, ◌+◌, ◌*◌, Bool, cond, List, [], ◌∷◌, length, get_or, leb, ltb, ℤ, pos, ◌-ℤ◌, Result, Ok, Err}
use Rattle.refusals.specs.declared.Refusal.{Refusal}
use Rattle.refusals.specs.Refusal.{Test, tested}
use Rattle.weights.specs.Bits.{pattern}

-- the byte at place k, 0 past the end
abbrev pub at : List ℕ → ℕ → ℕ
at b k = get_or b k 0

-- an unsigned 16-bit number at place k
unfoldable pub word : List ℕ → ℕ → ℕ
word b k = at b k * 256 + at b (k + 1)

-- two's complement of 8 and of 16 bits
unfoldable pub signed8 : ℕ → ℤ
signed8 v = cond (ltb v 128) (pos v) (pos v -ℤ pos 256)

unfoldable pub signed16 : ℕ → ℤ
signed16 v = cond (ltb v 32768) (pos v) (pos v -ℤ pos 65536)

-- the binary32 pattern at place k
unfoldable pub bits : List ℕ → ℕ → ℕ
bits b k = pattern (at b k) (at b (k + 1)) (at b (k + 2)) (at b (k + 3))

-- the first k bytes are there; if not, the recipe ends before a field is complete
unfoldable pub there : ℕ → List ℕ → Test
there k b = (leb k (length b), Refusal.Cut)

-- the byte at place k, or the refusal of a recipe that ends before it
unfoldable pub byte_at : ℕ → List ℕ → Result ℕ Refusal
byte_at k b = tested Err (there (k + 1) b ∷ []) (Ok (at b k))

-- a field that ends at byte k, what must hold of it, and the refusal where it does not
abbrev pub field : List ℕ → ℕ → Bool → Refusal → List Test
field b k ok refusal = there k b ∷ (ok, refusal) ∷ []
