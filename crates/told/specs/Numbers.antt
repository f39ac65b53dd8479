-- The calls' answers as numbers: which is returned, and which stand in the lent array.
use Rattle.std.specs.Prelude.{ℕ, ◌≡◌, Bool, cond, List, [], ◌∷◌, get_or, Option, None, Some, Result, Ok, Err}
use Rattle.refusals.specs.declared.Refusal.{Refusal}
use Rattle.refusals.specs.Refusal.{number}
use Rattle.answers.specs.declared.Picture.{Picture}
use Rattle.answers.specs.declared.Recipe.{Recipe}
use Rattle.answers.specs.declared.Needs.{Needs}
use Rattle.answers.specs.declared.Filtered.{Filtered}
use Rattle.answers.specs.declared.Held.{Held}
use Rattle.answers.specs.declared.Mean.{Mean}
use Rattle.answers.specs.declared.Movement.{Movement}

-- an answer in numbers: one number for a refusal, with nothing beside it, or the values that were asked for
pub data Told : Type 0 where
  refusal : ℕ → Told
  values : List ℕ → Told

-- the number returned: the refusal's, or 0
abbrev pub returned : Told → ℕ
returned (refusal n) = n
returned (values ns) = 0

-- the array after the call: as before a refusal, else the values
abbrev pub array_after : Told → List ℕ → List ℕ
array_after (refusal n) array = array
array_after (values ns) array = ns

-- an answer told: the number returned, and the array
pub record Tells (told : Told) (array array' : List ℕ) (r : ℕ) : Type 0 where
  pub number : r ≡ returned told
  pub numbers : array' ≡ array_after told array

-- an answer in numbers, by those of what was asked for
abbrev pub told_by : {A : Type 0} → (A → List ℕ) → Result A Refusal → Told
told_by numbers (Err r) = refusal (number r)
told_by numbers (Ok a) = values (numbers a)

-- a number alone
abbrev pub alone : ℕ → List ℕ
alone n = n ∷ []

-- of `read_still`: width, height, channels, and at which byte the raster begins
abbrev pub picture_numbers : Picture → List ℕ
picture_numbers p = p.width ∷ p.height ∷ p.channels ∷ p.start ∷ []

abbrev pub still_told : Result Picture Refusal → Told
still_told = told_by picture_numbers

-- of `write_still`: how many bytes were written
abbrev pub written_told : Result ℕ Refusal → Told
written_told = told_by alone

-- of `read_recipe`: S and T
abbrev pub recipe_numbers : Recipe → List ℕ
recipe_numbers r = r.count ∷ r.tolerance ∷ []

abbrev pub recipe_told : Result Recipe Refusal → Told
recipe_told = told_by recipe_numbers

-- of `needs`: how many work bytes, row values and sums must be lent, how many bytes are written, and T
abbrev pub needs_numbers : Needs → List ℕ
needs_numbers n = n.works ∷ n.rows ∷ n.sums ∷ n.out ∷ n.tolerance ∷ []

abbrev pub needs_told : Result Needs Refusal → Told
needs_told = told_by needs_numbers

-- of `filter_plane`: T
abbrev pub plane_told : Result ℕ Refusal → Told
plane_told = told_by alone

-- of `filter_file`: width, height, channels, T, and how many bytes were written
abbrev pub filtered_numbers : Filtered → List ℕ
filtered_numbers f = f.width ∷ f.height ∷ f.channels ∷ f.tolerance ∷ f.len ∷ []

abbrev pub file_told : Result Filtered Refusal → Told
file_told = told_by filtered_numbers

-- what a background holds, as four numbers: how many stills, width, height, channels
abbrev pub held_in : List ℕ → Held
held_in ns = record { count = get_or ns 0 0; width = get_or ns 1 0; height = get_or ns 2 0; channels = get_or ns 3 0 }

-- of `add_still` and `remove_still`: what is held afterwards
abbrev pub held_numbers : Held → List ℕ
held_numbers h = h.count ∷ h.width ∷ h.height ∷ h.channels ∷ []

abbrev pub changed_told : Result Held Refusal → Told
changed_told = told_by held_numbers

-- of `mean_still`: of how many stills, T, and how many bytes were written; all 0 where none are held
abbrev pub mean_numbers : Option Mean → List ℕ
mean_numbers None = 0 ∷ 0 ∷ 0 ∷ []
mean_numbers (Some m) = m.stills ∷ m.tolerance ∷ m.len ∷ []

abbrev pub mean_told : Result (Option Mean) Refusal → Told
mean_told = told_by mean_numbers

-- of `count_movement`: how many samples have moved, are still and are open, both T, and how many bytes were written into each output
abbrev pub movement_numbers : Movement → List ℕ
movement_numbers m = m.moved ∷ m.still ∷ m.open ∷ m.tolerance1 ∷ m.tolerance2 ∷ m.len ∷ []

abbrev pub movement_told : Result Movement Refusal → Told
movement_told = told_by movement_numbers

-- of `verdict`: 1 for yes, 0 for not
abbrev pub said_numbers : Bool → List ℕ
said_numbers said = cond said 1 0 ∷ []

abbrev pub judged_told : Result Bool Refusal → Told
judged_told = told_by said_numbers
