-- Laws of fields and headers, for the functions that read them one after the other. Assumes nothing.
use Prim.Native.Nat.{ℕ, ◌+◌, ◌≤◌}
use native.Mathlib.Omega.{arith}
use mathlib.Core.Path.{◌≡◌, refl}
use mathlib.Core.Bool.{Bool, true, false, cond}
use mathlib.Core.List.{List}
use Rattle.std.specs.Prelude.{Option, Some, None}
use lib.ListN.{length, get_or, drop, take, length-drop}
use Rattle.lists.proofs.Part.{tail_mid}
use Rattle.text.specs.Text.{is_space, gap}
use Rattle.header_reader.specs.Header.{field_after, field, header_of, height_field, maximum_field, header}
use Rattle.header_reader.specs.Answers.{field_answer, header_answer}
use Rattle.header_reader.specs.declared.Field.{Field}
use Rattle.header_reader.specs.declared.Header.{Header}
use Rattle.text.proofs.TextLaws.{gap-le, digits_le}

-- a header goes on where a field is read
abbrev pub on_field : Option Field → (ℕ → ℕ → Option Header) → Option Header
on_field None next = None
on_field (Some f) next = next f.value f.len

-- a header's answer, field by field
pub header_steps : (bytes : List ℕ) → header_answer (header bytes) ≡
    on_field (field_answer (field bytes))
    (λ w a. on_field (field_answer (field (drop a bytes)))
    (λ h b. on_field (field_answer (field (drop (a + b) bytes)))
    (λ m c. cond (is_space (get_or bytes (a + b + c) 0)) (Some (record { width = w; height = h; maximum = m; len = a + b + c + 1 })) None)))
unfolding header_answer header header_of field_answer height_field maximum_field
header_steps bytes = first (field bytes).whole (height_field bytes).whole (maximum_field bytes).whole refl refl refl
  where
    Goal : Type 0
    Goal = header_answer (header bytes) ≡
        on_field (field_answer (field bytes))
        (λ w a. on_field (field_answer (field (drop a bytes)))
        (λ h b. on_field (field_answer (field (drop (a + b) bytes)))
        (λ m c. cond (is_space (get_or bytes (a + b + c) 0)) (Some (record { width = w; height = h; maximum = m; len = a + b + c + 1 })) None)))

    first : (s t u : Bool) → (field bytes).whole ≡ s → (height_field bytes).whole ≡ t → (maximum_field bytes).whole ≡ u → Goal
    first false t u d e f = rw d
    first true false u d e f = rw (d, e)
    first true true false d e f = rw (d, e, f)
    first true true true d e f = rw (d, e, f)

pub size-le : (bytes : List ℕ) → (field bytes).size ≤ length bytes
unfolding field field_after
size-le bytes = omega (arith, gap-le false bytes, digits_le (drop (gap false bytes) bytes), length-drop (gap false bytes) bytes)

-- a field that is read takes its size
pub value-le : (bytes : List ℕ) {f : Field} → field_answer (field bytes) ≡ Some f → f.len ≤ length bytes
unfolding field_answer
value-le bytes {f} e = grind (arith, size-le)

-- and takes its size there
pub value-at : (a : ℕ) (bytes : List ℕ) {f : Field} → field_answer (field (drop a bytes)) ≡ Some f → a ≤ length bytes → a + f.len ≤ length bytes
value-at a bytes e h = omega (arith, value-le (drop a bytes) e, length-drop a bytes)

-- what bounds a field, and what reads a header field by field
pub ruleset inside = (gap-le, digits_le, length-drop, tail_mid)

pub ruleset by_field = (header_steps, value-le, value-at, tail_mid)
