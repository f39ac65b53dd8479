-- What `filter_file` answers.
use Rattle.std.specs.Prelude.{ℕ, ◌+◌, ◌*◌, ◌≤◌, ◌≡◌, List, [], ◌∷◌, ◌++◌, length, drop, Result, Ok, Err}
use Rattle.refusals.specs.declared.Refusal.{Refusal}
use Rattle.refusals.specs.Refusal.{Test, tested, verdict}
use Rattle.model.specs.Stage.{Stage}
use Rattle.model.specs.Tolerance.{tolerance}
use Rattle.answers.specs.declared.Picture.{Picture}
use Rattle.still_reader.specs.Read.{still_of}
use Rattle.header_writer.specs.Heading.{header_bytes}
use Rattle.recipe.specs.Recipe.{recipe_tests, recipe_stages}
use Rattle.answers.specs.declared.Filtered.{Filtered}
use Rattle.room.specs.declared.Lent.{Lent}
use Rattle.room.specs.Room.{room_tests}
use Rattle.filter_answers.specs.declared.Limits.{Limits}
use Rattle.filter_answers.specs.Limits.{stage_limit_test, sample_limit_test}

-- how many bytes the written file has: its header's, and one for each sample
unfoldable pub file_size : ℕ → ℕ → ℕ → ℕ
file_size W H c = length (header_bytes W H c) + W * H * c

-- a picture that is filtered: its size, T and how many bytes are to be written
abbrev pub filtered : Picture → ℕ → Filtered
filtered p T = record { width = p.width; height = p.height; channels = p.channels; tolerance = T; len = file_size p.width p.height p.channels }

-- the answer to a still by a recipe with this T, whatever is lent: the still's refusal, or 29, or its size, T and how many bytes are to be written
abbrev pub still_answer : Limits → ℕ → Result Picture Refusal → Result Filtered Refusal
still_answer m T (Err r) = Err r
still_answer m T (Ok p) = tested Err (sample_limit_test m p.width p.height ∷ []) (Ok (filtered p T))

-- the answer to a recipe with these tests and stages and to a still, whatever is lent: the recipe's own refusals come first, then 28, then the still's and 29.
-- It is apart from the bytes, so that worked examples need none
abbrev pub limited_answer : Limits → List Test → List Stage → Result Picture Refusal → Result Filtered Refusal
limited_answer m own ts s = tested Err (own ++ stage_limit_test m ts ∷ []) (still_answer m (tolerance ts) s)

-- the same of a recipe's and a still's bytes
unfoldable pub picture_answer : Limits → List ℕ → List ℕ → Result Filtered Refusal
picture_answer m recipe still = limited_answer m (recipe_tests recipe) (recipe_stages recipe) (still_of still)

-- what such an answer has shown: a picture's sides are at most 8,192, and its recipe is accepted
abbrev pub Asked : List ℕ → Result Filtered Refusal → Type 0
Asked recipe (Err r) = Unit {0}
Asked recipe (Ok f) = (f.width ≤ 8192) × (f.height ≤ 8192) × (verdict (recipe_tests recipe) ≡ Ok tt)

-- what is tested of the lent buffers for such an answer, all of it refusal 20: a refusal asks for none
abbrev pub lent_tests : List Stage → Lent → Result Filtered Refusal → List Test
lent_tests ts l (Err r) = []
lent_tests ts l (Ok f) = room_tests f.width f.height ts f.len l

-- such an answer with these buffers: 20 comes last
abbrev pub lending : List Stage → Lent → Result Filtered Refusal → Result Filtered Refusal
lending ts l answer = tested Err (lent_tests ts l answer) answer

-- the answer of `filter_file` to a caller with limits m: the picture's size, T and the length written, or the first refusal: the recipe's, 28, the still's, 29, 20
unfoldable pub file_answer : Limits → List ℕ → List ℕ → Lent → Result Filtered Refusal
file_answer m recipe still l = lending (recipe_stages recipe) l (picture_answer m recipe still)

-- a still's samples
abbrev pub samples_of : Result Picture Refusal → List ℕ → List ℕ
samples_of (Err r) still = []
samples_of (Ok p) still = drop p.start still
