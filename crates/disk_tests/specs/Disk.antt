-- What the program finds of its two input files.
use Rattle.std.specs.Prelude.{ℕ, Bool, true, false, List, [], ◌∷◌, ◌++◌, leb, Option, None, Some, Result, Ok, Err}
use Rattle.refusals.specs.declared.Refusal.{Refusal}
use Rattle.refusals.specs.declared.Refusal.TheVariants as Refusal
use Rattle.refusals.specs.Refusal.{Test, tested}

-- whether a file could be read
abbrev pub is_read : Option ℕ → Bool
is_read None = false
is_read (Some n) = true

-- how many bytes were read: none of a file that cannot be read
abbrev pub size : Option ℕ → ℕ
size None = 0
size (Some n) = n

-- of each file first that it was read (22), then that it is not too long (21)
abbrev pub file_tests : Option ℕ → ℕ → List Test
file_tests file limit =
    (is_read file, Refusal.FileUnread)
    ∷ (leb (size file) limit, Refusal.FileLong)
    ∷ []

-- refusals 21 and 22 ('Who causes which refusal'): the still, then the recipe
unfoldable pub disk_tests : Option ℕ → Option ℕ → List Test
disk_tests still recipe = file_tests still 65536 ++ file_tests recipe 4096

-- the lengths of still and recipe, or a refusal
unfoldable pub found : Option ℕ → Option ℕ → Result (ℕ × ℕ) Refusal
found still recipe = tested Err (disk_tests still recipe) (Ok (size still, size recipe))

-- the name of the file that is written: out
abbrev pub out_name : List ℕ
out_name = 111 ∷ 117 ∷ 116 ∷ []
