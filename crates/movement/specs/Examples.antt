-- Worked examples of movement. A row names the case, what the definitions give, and what they should give. The theorem at the end goes over all rows.
use Rattle.std.specs.Prelude.{ℕ, List, [], ◌∷◌, ◌++◌, map, ◌≡◌, refl, false, replicate, Result, Ok, Err}
use Prim.Native.String.{String}
use Rattle.lists.specs.Count.{count}
use Rattle.lists.specs.Tabulate.{tabulate}
use Rattle.model.specs.Within.{distance}
use Rattle.refusals.specs.declared.Refusal.{Refusal}
use Rattle.refusals.specs.declared.Refusal.TheVariants as Refusal
use Rattle.refusals.specs.Refusal.{number, Test, tested}
use Rattle.answers.specs.declared.Filtered.{Filtered}
use Rattle.movement.specs.Motion.{Motion, moved, still, unsettled, surely_moved, surely_still, motion}
use Rattle.movement.specs.Motions.{motions, moved_count, still_count, open_count}
use Rattle.movement.specs.Truth.{exact_difference}
use Rattle.movement.specs.Order.{in_order}

pub data Answer : Type 0 where
  samples : List Motion → Answer
  numbers : List ℕ → Answer

pub record Example : Type 0 where
  pub name : String
  pub found : Answer
  pub expected : Answer

unfoldable pub row : String → Answer → Answer → Example
row n f e = record { name = n; found = f; expected = e }

-- the motions of these differences, under limit L and with both tolerances
unfoldable pub apart : ℕ → ℕ → ℕ → List ℕ → Answer
apart L T T' ds = samples (map (λ d. motion L T T' d 0) ds)

-- the same of every difference that two bytes can have, 0 to 255
unfoldable pub all : ℕ → ℕ → ℕ → Answer
all L T T' = apart L T T' (tabulate (λ d. d) 256)

-- how many of two rasters have moved, are still and are open
unfoldable pub counted : List Motion → Answer
counted ms = numbers (moved_count ms ∷ still_count ms ∷ open_count ms ∷ [])

-- what a run comes to: a picture of some size and T, or of one channel; or a refusal
unfoldable pub picture : ℕ → ℕ → ℕ → Result Filtered Refusal
picture W H c = Ok (record { width = W; height = H; channels = c; tolerance = 0; len = 0 })

unfoldable pub grey : ℕ → ℕ → Result Filtered Refusal
grey W H = picture W H 1

unfoldable pub refused : Refusal → Result Filtered Refusal
refused refusal = Err refusal

-- lent buffers of which one is too short
unfoldable pub lacking : List Test
lacking = (false, Refusal.Room) ∷ []

-- what tests in this order come to: a refusal's number, or 0
unfoldable pub ordered : ℕ → Result Filtered Refusal → Result Filtered Refusal → List Test → List Test → ℕ
ordered L first second lent1 lent2 = tested number (in_order L first second lent1 lent2) 0

-- With L 4 and tolerances of 30,000 and 35,536, which come to one level: 3 levels and that one are the 4 of the limit, and still; 5 levels do not pass 4 and one, and are
-- open. One unit of tolerance more, and 3 is open; one less, and 5 has moved. 7/2 - 1/3 is 19/6, and so is its magnitude the other way round.
unfoldable pub rows : List Example
rows =
    row "L 0, both T 0: 0 is still, 1 has moved" (apart 0 0 0 (0 ∷ 1 ∷ 255 ∷ [])) (samples (still ∷ moved ∷ moved ∷ []))
    ∷ row "L 0, a T above 0: 0 is open, and nothing is ever still" (all 0 1 0) (samples (unsettled ∷ replicate 255 moved))
    ∷ row "the other T above 0" (all 0 0 65536) (samples (unsettled ∷ unsettled ∷ replicate 254 moved))
    ∷ row "L 255, both T 0: 255 is still, and nothing has ever moved" (all 255 0 0) (samples (replicate 256 still))
    ∷ row "L 255, a T above 0: 255 is open, and nothing has ever moved" (all 255 0 1) (samples (replicate 255 still ++ (unsettled ∷ [])))
    ∷ row "L 4: below, at and above the edge of still" (apart 4 30000 35536 (2 ∷ 3 ∷ 4 ∷ [])) (samples (still ∷ still ∷ unsettled ∷ []))
    ∷ row "L 4: below, at and above the edge of moved" (apart 4 30000 35536 (4 ∷ 5 ∷ 6 ∷ [])) (samples (unsettled ∷ unsettled ∷ moved ∷ []))
    ∷ row "L 4, a unit of tolerance more" (apart 4 30001 35536 (2 ∷ 3 ∷ 5 ∷ 6 ∷ [])) (samples (still ∷ unsettled ∷ unsettled ∷ moved ∷ []))
    ∷ row "L 4, a unit of tolerance less" (apart 4 30000 35535 (3 ∷ 4 ∷ 5 ∷ [])) (samples (still ∷ unsettled ∷ moved ∷ []))
    ∷ row "L 4, no tolerance: nothing is open" (apart 4 0 0 (3 ∷ 4 ∷ 5 ∷ [])) (samples (still ∷ still ∷ moved ∷ []))
    ∷ row "the magnitude counts, whichever sample is the larger" (samples (motion 4 30000 35536 10 16 ∷ motion 4 30000 35536 16 10 ∷ [])) (samples (moved ∷ moved ∷ []))
    ∷ row "two rasters, place by place"
    (samples (motions 4 30000 35536 (10 ∷ 23 ∷ 30 ∷ 46 ∷ []) (10 ∷ 20 ∷ 35 ∷ 40 ∷ [])))
    (samples (still ∷ still ∷ unsettled ∷ moved ∷ []))
    ∷ row "how many: moved, still, open" (counted (motions 4 30000 35536 (10 ∷ 23 ∷ 30 ∷ 46 ∷ []) (10 ∷ 20 ∷ 35 ∷ 40 ∷ []))) (numbers (1 ∷ 2 ∷ 1 ∷ []))
    ∷ row "the limit comes before everything" (numbers (ordered 256 (refused Refusal.Kind) (refused Refusal.RasterShort) lacking lacking ∷ ordered 255 (refused Refusal.Kind) (refused Refusal.RasterShort) lacking lacking ∷ [])) (numbers (27 ∷ 13 ∷ []))
    ∷ row "then the first run's refusal, then the second's, and then the sizes" (numbers (ordered 0 (refused Refusal.RasterShort) (refused Refusal.Kind) lacking lacking ∷ ordered 0 (grey 3 2) (refused Refusal.RasterLong) lacking lacking ∷ ordered 0 (grey 3 2) (grey 2 3) lacking lacking ∷ [])) (numbers (5 ∷ 6 ∷ 26 ∷ []))
    ∷ row "width, height and channels" (numbers (ordered 0 (grey 3 2) (grey 4 2) [] [] ∷ ordered 0 (grey 3 2) (grey 3 1) [] [] ∷ ordered 0 (grey 3 2) (picture 3 2 3) [] [] ∷ [])) (numbers (26 ∷ 26 ∷ 26 ∷ []))
    ∷ row "room for either run comes last" (numbers (ordered 0 (grey 3 2) (grey 3 2) lacking [] ∷ ordered 0 (grey 3 2) (grey 3 2) [] lacking ∷ ordered 0 (grey 3 2) (grey 3 2) [] [] ∷ [])) (numbers (20 ∷ 20 ∷ 0 ∷ []))
    ∷ row "7/2 and 1/3 are 19/6 apart" (numbers (exact_difference 2 7 3 1 ∷ exact_difference 3 1 2 7 ∷ [])) (numbers (19 ∷ 19 ∷ []))
    ∷ []

-- every definition that an example runs through, opened by one name
opened : Unit {0}
unfolding count tabulate distance surely_moved surely_still motion motions exact_difference in_order row apart all counted picture grey refused lacking ordered
opened = tt

-- THE WORKED EXAMPLES HOLD, by computation
pub examples_hold : map (λ e. e.found) rows ≡ map (λ e. e.expected) rows
unfolding opened rows
examples_hold = refl
