-- Worked examples of limits. A row names the cases, the refusals that the definitions give, and those they should give, 0 for none. The theorem at the end goes over all rows.
use Rattle.std.specs.Prelude.{ℕ, List, [], ◌∷◌, map, ◌≡◌, refl, false, replicate, Result, Ok, Err}
use Prim.Native.String.{String}
use Rattle.refusals.specs.declared.Refusal.{Refusal}
use Rattle.refusals.specs.declared.Refusal.TheVariants as Refusal
use Rattle.refusals.specs.Refusal.{Test, number}
use Rattle.model.specs.Border.{nearest}
use Rattle.model.specs.Stage.{outline, Stage, stage}
use Rattle.answers.specs.declared.Picture.{Picture}
use Rattle.answers.specs.declared.Filtered.{Filtered}
use Rattle.room.specs.Room.{lent, room_tests}
use Rattle.filter_answers.specs.declared.Limits.{Limits}
use Rattle.filter_answers.specs.Limits.{limits, archive, panel}
use Rattle.filter_answers.specs.FileAnswer.{limited_answer, lending}

pub record Example : Type 0 where
  pub name : String
  pub found : List ℕ
  pub expected : List ℕ

unfoldable pub row : String → List ℕ → List ℕ → Example
row n f e = record { name = n; found = f; expected = e }

-- so many stages
unfoldable pub outlines : ℕ → List Stage
outlines k = replicate k (stage nearest 0 outline)

-- a still of this size and so many channels, behind a header of 13 bytes
unfoldable pub picture : ℕ → ℕ → ℕ → Result Picture Refusal
picture W H c = Ok (record { width = W; height = H; channels = c; start = 13 })

-- an answer's refusal
unfoldable pub refusal : Result Filtered Refusal → ℕ
refusal (Err r) = number r
refusal (Ok f) = 0

-- the refusal of a recipe with these tests of its own and so many stages, and of a still
unfoldable pub answers : Limits → List Test → ℕ → Result Picture Refusal → ℕ
answers m own k s = refusal (limited_answer m own (outlines k) s)

-- a recipe's own test that fails: an unknown kind
unfoldable pub unknown : List Test
unknown = (false, Refusal.Kind) ∷ []

-- the same where the recipe is accepted and nothing is lent
unfoldable pub lent_nothing : Limits → ℕ → Result Picture Refusal → ℕ
lent_nothing m k s = refusal (lending (outlines k) (lent 0 0 0 0) (limited_answer m [] (outlines k) s))

unfoldable pub rows : List Example
rows =
    row "the panel takes four stages, and not five" (answers panel [] 4 (picture 3 1 1) ∷ answers panel [] 5 (picture 3 1 1) ∷ []) (0 ∷ 28 ∷ [])
    ∷ row "the archive takes eight" (answers archive [] 8 (picture 3 1 1) ∷ []) (0 ∷ [])
    ∷ row "a recipe's own refusal comes before 28" (answers panel unknown 5 (picture 3 1 1) ∷ []) (13 ∷ [])
    ∷ row "28 comes before a still's refusal, and that before 29" (answers panel [] 5 (Err Refusal.RasterShort) ∷ answers panel [] 4 (Err Refusal.RasterShort) ∷ []) (28 ∷ 5 ∷ [])
    ∷ row "the panel takes 8,192 samples, however they lie" (answers panel [] 1 (picture 8192 1 1) ∷ answers panel [] 1 (picture 1 8192 1) ∷ answers panel [] 1 (picture 128 64 1) ∷ []) (0 ∷ 0 ∷ 0 ∷ [])
    ∷ row "and no more: 2,731 by 3 are 8,193" (answers panel [] 1 (picture 2731 3 1) ∷ answers panel [] 1 (picture 91 91 1) ∷ answers panel [] 1 (picture 8192 2 1) ∷ []) (29 ∷ 29 ∷ 29 ∷ [])
    ∷ row "a plane counts: three of 4,096 are 12,288 in all" (answers panel [] 4 (picture 64 64 3) ∷ answers panel [] 4 (picture 91 91 3) ∷ []) (0 ∷ 29 ∷ [])
    ∷ row "the archive takes the largest still" (answers archive [] 8 (picture 8192 8192 3) ∷ []) (0 ∷ [])
    ∷ row "28 and 29 come before 20" (lent_nothing panel 5 (picture 3 1 1) ∷ lent_nothing panel 4 (picture 91 91 1) ∷ lent_nothing panel 4 (picture 90 91 1) ∷ lent_nothing archive 5 (picture 91 91 1) ∷ []) (28 ∷ 29 ∷ 20 ∷ 20 ∷ [])
    ∷ row "other limits, down to none of either" (answers (limits 1 6) [] 1 (picture 3 2 3) ∷ answers (limits 1 5) [] 1 (picture 3 2 3) ∷ answers (limits 1 0) [] 1 (picture 1 1 1) ∷ answers (limits 0 0) [] 1 (picture 1 1 1) ∷ []) (0 ∷ 29 ∷ 29 ∷ 28 ∷ [])
    ∷ []

-- every definition that an example runs through, opened by one name
opened : Unit {0}
unfolding stage room_tests row outlines picture refusal answers unknown lent_nothing
opened = tt

-- THE WORKED EXAMPLES HOLD, by computation
pub examples_hold : map (λ e. e.found) rows ≡ map (λ e. e.expected) rows
unfolding opened rows
examples_hold = refl
