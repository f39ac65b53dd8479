-- Worked examples of needs. A row names the cases, what the definitions give, and what they should give: a refusal of each, or work bytes, row values, sums, bytes of output
-- and T. The theorem at the end goes over all rows.
use Rattle.std.specs.Prelude.{ℕ, List, [], ◌∷◌, ◌++◌, map, ◌≡◌, refl, false, Result, Ok, Err}
use Prim.Native.String.{String}
use Rattle.refusals.specs.declared.Refusal.{Refusal}
use Rattle.refusals.specs.Refusal.{Test, number}
use Rattle.model.specs.Border.{nearest}
use Rattle.model.specs.Stage.{Work, box, rank, outline, Stage, stage}
use Rattle.model.specs.Tolerance.{growth, after_stage, tolerance_from, tolerance}
use Rattle.answers.specs.declared.Picture.{Picture}
use Rattle.answers.specs.declared.Needs.{Needs}
use Rattle.header_writer.specs.Heading.{decimal_in, decimal, magic_line, header_bytes}
use Rattle.table_sizes.specs.Needs.{work_sums, sum_need}
use Rattle.filter_answers.specs.FileAnswer.{file_size}
use Rattle.buffer_needs.specs.NeedsAnswer.{recipe_needs}

pub record Example : Type 0 where
  pub name : String
  pub found : List ℕ
  pub expected : List ℕ

unfoldable pub row : String → List ℕ → List ℕ → Example
row n f e = record { name = n; found = f; expected = e }

-- stages that do this, one after the other
unfoldable pub doing : List Work → List Stage
doing = map (stage nearest 0)

-- a header of this size and so many channels, of 13 bytes
unfoldable pub head : ℕ → ℕ → ℕ → Result Picture Refusal
head W H c = Ok (record { width = W; height = H; channels = c; start = 13 })

-- a recipe's own test that fails: an unknown kind
unfoldable pub unknown : List Test
unknown = (false, Refusal.Kind) ∷ []

-- an answer's numbers
unfoldable pub numbers : Result Needs Refusal → List ℕ
numbers (Err r) = number r ∷ []
numbers (Ok n) = n.works ∷ n.rows ∷ n.sums ∷ n.out ∷ n.tolerance ∷ []

-- what an accepted recipe that does this needs
unfoldable pub needed : List Work → Result Picture Refusal → List ℕ
needed works s = numbers (recipe_needs [] (doing works) s)

unfoldable pub rows : List Example
rows =
    row "a rank on 3 by 1: twice its samples, 31 rows of values, no sums, a header of 11 bytes and three samples" (needed (rank 1 0 2 ∷ []) (head 3 1 1)) (6 ∷ 93 ∷ 0 ∷ 14 ∷ 0 ∷ [])
    ∷ row "three channels: the output is larger, and nothing else" (needed (rank 1 0 2 ∷ []) (head 3 1 3)) (6 ∷ 93 ∷ 0 ∷ 20 ∷ 0 ∷ [])
    ∷ row "a box of radii 1 and 2 on 5 by 4: 6 rows of 8 sums" (needed (box 1 2 ∷ []) (head 5 4 1)) (40 ∷ 170 ∷ 48 ∷ 31 ∷ 32768 ∷ [])
    ∷ row "of three boxes the one in the middle holds most" (needed (box 1 0 ∷ box 2 2 ∷ box 0 1 ∷ []) (head 5 4 1)) (40 ∷ 170 ∷ 60 ∷ 31 ∷ 98304 ∷ [])
    ∷ row "T is that of all stages: an outline multiplies what the box before it added" (needed (box 0 0 ∷ outline ∷ []) (head 10 9 1)) (180 ∷ 390 ∷ 22 ∷ 102 ∷ 196608 ∷ [])
    ∷ row "the header's refusal" (needed (outline ∷ []) (Err Refusal.Side)) (3 ∷ [])
    ∷ row "the recipe's comes before it, and before what an accepted header needs" (numbers (recipe_needs unknown (doing (outline ∷ [])) (Err Refusal.Side)) ++ numbers (recipe_needs unknown (doing (outline ∷ [])) (head 3 1 1))) (13 ∷ 13 ∷ [])
    ∷ []

-- every definition that an example runs through, opened by one name
opened : Unit {0}
unfolding stage growth after_stage tolerance_from tolerance work_sums sum_need decimal_in decimal magic_line header_bytes file_size row doing head unknown numbers needed
opened = tt

-- THE WORKED EXAMPLES HOLD, by computation
pub examples_hold : map (λ e. e.found) rows ≡ map (λ e. e.expected) rows
unfolding opened rows
examples_hold = refl
