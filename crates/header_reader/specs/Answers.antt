-- The answers of the functions below `read_still`: a number in code is cut at 10,000.
use Rattle.std.specs.Prelude.{ℕ, min, true, cond, Option, Some, None}
use Rattle.header_reader.specs.declared.Field.{Field}
use Rattle.header_reader.specs.declared.Header.{Header}
use Rattle.header_reader.specs.Header as Spec

unfoldable pub field_answer : Spec.Field → Option Field
field_answer f = cond f.whole (Some (record { value = min f.number 10000; len = f.size })) None

unfoldable pub header_answer : Spec.Header → Option Header
header_answer h =
    cond h.whole (Some (record { width = min h.width 10000; height = min h.height 10000; maximum = min h.maximum 10000; len = h.size })) None

-- a header that is whole, by its numbers
unfoldable pub whole_header : ℕ → ℕ → ℕ → ℕ → Spec.Header
whole_header w h m n = record { whole = true; width = w; height = h; maximum = m; size = n }
