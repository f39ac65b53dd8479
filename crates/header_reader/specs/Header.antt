-- A header after the magic ('P5 and P6'): width, height and maximum, each behind separators of its own, and after the maximum a single whitespace byte.
use Rattle.std.specs.Prelude.{ℕ, ◌+◌, Bool, false, ◌&&◌, List, length, get_or, drop, leb}
use Rattle.text.specs.Text.{is_space, gap, digits, value}

-- a field, separators and then a number: whether both are there, the number, and how many bytes they take
pub record Field : Type 0 where
  pub whole : Bool
  pub number : ℕ
  pub size : ℕ

-- the field whose separators take g bytes
unfoldable pub field_after : ℕ → List ℕ → Field
field_after g bytes = record { whole = leb 1 g && leb 1 (length (digits (drop g bytes))); number = value (digits (drop g bytes)); size = g + length (digits (drop g bytes)) }

-- the field at the front
unfoldable pub field : List ℕ → Field
field bytes = field_after (gap false bytes) bytes

-- a header: whether all its fields and the one whitespace byte are there, its numbers, and how many bytes it takes
pub record Header : Type 0 where
  pub whole : Bool
  pub width : ℕ
  pub height : ℕ
  pub maximum : ℕ
  pub size : ℕ

-- the header that three fields and the byte after them make. Past the end stands 0, which is no whitespace
unfoldable pub header_of : Field → Field → Field → List ℕ → Header
header_of w h m bytes = record {
  whole = w.whole && (h.whole && (m.whole && is_space (get_or bytes (w.size + h.size + m.size) 0)));
  width = w.number;
  height = h.number;
  maximum = m.number;
  size = w.size + h.size + m.size + 1;
}

-- each field stands where the one before it ends
unfoldable pub height_field : List ℕ → Field
height_field bytes = field (drop (field bytes).size bytes)

unfoldable pub maximum_field : List ℕ → Field
maximum_field bytes = field (drop ((field bytes).size + (height_field bytes).size) bytes)

unfoldable pub header : List ℕ → Header
header bytes = header_of (field bytes) (height_field bytes) (maximum_field bytes) bytes
