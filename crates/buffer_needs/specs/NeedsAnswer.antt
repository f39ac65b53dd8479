-- What `needs` answers (request 2026-10): what a run of `filter_file` must be lent, how many bytes it writes, and its T.
use Rattle.std.specs.Prelude.{ℕ, List, Result, Ok, Err}
use Rattle.refusals.specs.declared.Refusal.{Refusal}
use Rattle.refusals.specs.Refusal.{Test, tested}
use Rattle.model.specs.Stage.{Stage}
use Rattle.model.specs.Tolerance.{tolerance}
use Rattle.answers.specs.declared.Picture.{Picture}
use Rattle.answers.specs.declared.Needs.{Needs}
use Rattle.still_reader.specs.Head.{head_of}
use Rattle.recipe.specs.Recipe.{recipe_tests, recipe_stages}
use Rattle.room.specs.declared.Lent.{Lent}
use Rattle.room.specs.Room.{needs}
use Rattle.filter_answers.specs.FileAnswer.{file_size}

-- these lengths and this T
abbrev pub lengths : Lent → ℕ → Needs
lengths l T = record { works = l.works; rows = l.rows; sums = l.sums; out = l.out; tolerance = T }

-- the answer to what a header says, for an accepted recipe's stages: the header's refusal, 1 to 4, or the needs from which 20 is tested, with the size of the whole
-- file for the output
abbrev pub head_needs : List Stage → Result Picture Refusal → Result Needs Refusal
head_needs ts (Err r) = Err r
head_needs ts (Ok p) = Ok (lengths (needs p.width p.height ts (file_size p.width p.height p.channels)) (tolerance ts))

-- the answer to a recipe with these tests and stages and to what a header says: the recipe's refusals come first. It is apart from the bytes, so that worked examples
-- need none
abbrev pub recipe_needs : List Test → List Stage → Result Picture Refusal → Result Needs Refusal
recipe_needs own ts head = tested Err own (head_needs ts head)

-- the answer of `needs` to a recipe's and a still's bytes. Of the still it looks at the header alone
unfoldable pub needs_answer : List ℕ → List ℕ → Result Needs Refusal
needs_answer recipe still = recipe_needs (recipe_tests recipe) (recipe_stages recipe) (head_of still)
