-- Worked examples of a verdict (request 2026-11): what is refused first, and which samples are near enough.
-- A row names the case, what the definitions give for its input, and what they should give. The theorems at the end go over all rows.
use Rattle.std.specs.Prelude.{ℕ, cond, List, [], ◌∷◌, map, ◌≡◌, refl, ℤ, pos, negsuc, Result, Ok, Err}
use Prim.Native.String.{String}
use Rattle.integers.specs.Divide.{clamp}
use Rattle.integers.specs.Sum.{sum}
use Rattle.lists.specs.Tabulate.{tabulate, raster}
use Rattle.channels.specs.Channel.{channel}
use Rattle.model.specs.Border.{nearest, closest, supply}
use Rattle.model.specs.Plane.{plane_of, pick, around}
use Rattle.model.specs.Kernel.{Kernel, tap, kernel, weighted_sum}
use Rattle.model.specs.Window.{area, window}
use Rattle.model.specs.Rank.{insert, sort, smallest}
use Rattle.model.specs.Stage.{Work, weighted, box, rank, stage}
use Rattle.model.specs.Exact.{denominator, numerator, exact_plane, exact_from, denominator_from, exact, exact_denominator}
use Rattle.model.specs.Within.{distance}
use Rattle.refusals.specs.declared.Refusal.{Refusal}
use Rattle.refusals.specs.declared.Refusal.TheVariants as Refusal
use Rattle.refusals.specs.Refusal.{number}
use Rattle.answers.specs.declared.Picture.{Picture}
use Rattle.still_reader.specs.Head.{channels_of, magic_test, head_of}
use Rattle.still_reader.specs.Read.{still_of}
use Rattle.recipe_bytes.specs.Bytes.{there}
use Rattle.stage_fields.specs.StageFields.{head_tests, radius_tests}
use Rattle.recipe_stages.specs.StageBytes.{work_tests, work_length, stage_tests, stage_length}
use Rattle.recipe.specs.Recipe.{stages_tests, recipe_tests}
use Rattle.near_rows.specs.Near.{near}
use Rattle.near_rows.specs.Everywhere.{everywhere}
use Rattle.verdict_answers.specs.declared.Comparison.{Comparison}
use Rattle.verdict_answers.specs.Plan.{fit_stage, request_tests, stills_plan, plan_of}
use Rattle.verdict_answers.specs.VerdictAnswer.{all_near}

pub record Example : Type 0 where
  pub name : String
  pub found : List ℕ
  pub expected : List ℕ

unfoldable pub row : String → List ℕ → List ℕ → Example
row n f e = record { name = n; found = f; expected = e }

-- ---- the order of refusals

-- a plan's numbers: a refusal's, or the size and where both rasters begin
unfoldable pub numbers : Result Comparison Refusal → List ℕ
numbers (Err refusal) = number refusal ∷ []
numbers (Ok p) = p.width ∷ p.height ∷ p.channels ∷ p.raw ∷ p.received ∷ []

-- a distance and a recipe, with two empty files and nothing lent
unfoldable pub asked : ℕ → List ℕ → List ℕ
asked c recipe = numbers (plan_of c recipe [] [] 0)

-- two stills, with so many work bytes lent
unfoldable pub stills : ℕ → Result Picture Refusal → Result Picture Refusal → List ℕ
stills works first second = numbers (stills_plan works first second)

-- a still of so many channels, whose header has `start` bytes
unfoldable pub picture : ℕ → ℕ → ℕ → ℕ → Result Picture Refusal
picture W H channels start = Ok (record { width = W; height = H; channels = channels; start = start })

-- a still of one channel, with a header of 11 bytes
unfoldable pub grey : ℕ → ℕ → Result Picture Refusal
grey W H = picture W H 1 11

-- a still that is refused
unfoldable pub refused : Refusal → Result Picture Refusal
refused refusal = Err refusal

-- whether a stage that begins with this kind may be judged, in a recipe of so many stages: 1 for yes, 0 for not
unfoldable pub fits : ℕ → ℕ → List ℕ
fits stages kind = cond (fit_stage (stages ∷ kind ∷ [])) 1 0 ∷ []

unfoldable pub refusals : List Example
refusals =
    row "a distance over 255 is refused first" (asked 256 []) (32 ∷ [])
    ∷ row "then the recipe's own refusals: it is cut" (asked 255 []) (11 ∷ [])
    ∷ row "ratios may be judged" (fits 1 1) (1 ∷ [])
    ∷ row "a box may" (fits 1 4) (1 ∷ [])
    ∷ row "a rank may" (fits 1 5) (1 ∷ [])
    ∷ row "real weights may not" (fits 1 2) (0 ∷ [])
    ∷ row "nor may two stages" (fits 2 4) (0 ∷ [])
    ∷ row "an outline is of another kind" (asked 0 (1 ∷ 6 ∷ 1 ∷ 0 ∷ [])) (30 ∷ [])
    ∷ row "a binomial is of another kind" (asked 0 (1 ∷ 3 ∷ 1 ∷ 0 ∷ 0 ∷ 0 ∷ [])) (30 ∷ [])
    ∷ row "two boxes are too many" (asked 0 (2 ∷ 4 ∷ 1 ∷ 0 ∷ 0 ∷ 0 ∷ 4 ∷ 1 ∷ 0 ∷ 0 ∷ 0 ∷ [])) (30 ∷ [])
    ∷ row "one box: then the raw still's" (asked 0 (1 ∷ 4 ∷ 1 ∷ 0 ∷ 0 ∷ 0 ∷ [])) (1 ∷ [])
    ∷ row "the raw still's before the received one's" (stills 0 (refused Refusal.RasterShort) (refused Refusal.Header)) (5 ∷ [])
    ∷ row "the received one's before the size" (stills 0 (grey 3 1) (refused Refusal.Header)) (2 ∷ [])
    ∷ row "the size before room" (stills 0 (grey 3 1) (grey 1 3)) (31 ∷ [])
    ∷ row "channels too" (stills 3 (grey 3 1) (picture 3 1 3 11)) (31 ∷ [])
    ∷ row "room for all samples but one" (stills 2 (grey 3 1) (grey 3 1)) (20 ∷ [])
    ∷ row "room for one channel is enough, however many there are" (stills 3 (picture 3 1 3 11) (picture 3 1 3 13)) (3 ∷ 1 ∷ 3 ∷ 11 ∷ 13 ∷ [])
    ∷ []

-- ---- which samples are near enough

-- one stage, nearest, on H rows of W samples: 1 for yes, 0 for not
unfoldable pub judged_rows : ℕ → ℕ → ℕ → Work → List ℕ → List ℕ → List ℕ
judged_rows W H c work raw received = cond (all_near c W H 1 (stage nearest 0 work ∷ []) raw received) 1 0 ∷ []

-- the same on one row
unfoldable pub judged : ℕ → ℕ → Work → List ℕ → List ℕ → List ℕ
judged W c work raw received = judged_rows W 1 c work raw received

-- three taps at offsets -1 0 1 over D, and one 1/1 at 0
unfoldable pub three : ℕ → ℤ → ℤ → ℤ → Kernel
three D a b c = kernel D (tap (negsuc 0) a ∷ tap (pos 0) b ∷ tap (pos 1) c ∷ [])

unfoldable pub one : Kernel
one = kernel 1 (tap (pos 0) (pos 1) ∷ [])

-- Worked by hand on 10 20 40: 1 2 1 over 4 gives 12.5, 22.5 and 35; a box of radius 1 gives 13 1/3, 23 1/3 and 33 1/3; its median 10, 20 and 40
unfoldable pub smooth : Work
smooth = weighted (three 4 (pos 1) (pos 2) (pos 1)) one

unfoldable pub samples : List ℕ
samples = 10 ∷ 20 ∷ 40 ∷ []

-- Worked by hand on 10 20 above 30 50: halves of a sample and the one right of it give 15 20 above 40 50; a third of these and two thirds of what lies below give
-- 31 2/3 and 40 above 40 and 50, over 2 · 3
unfoldable pub slanted : Work
slanted = weighted (kernel 2 (tap (pos 0) (pos 1) ∷ tap (pos 1) (pos 1) ∷ [])) (kernel 3 (tap (pos 0) (pos 1) ∷ tap (pos 1) (pos 2) ∷ []))

unfoldable pub square : List ℕ
square = 10 ∷ 20 ∷ 30 ∷ 50 ∷ []

-- three channels of one place, by a window of one sample
unfoldable pub coloured : ℕ → List ℕ → List ℕ
coloured c received = cond (all_near c 1 1 3 (stage nearest 0 (rank 0 0 1) ∷ []) (10 ∷ 20 ∷ 30 ∷ []) received) 1 0 ∷ []

unfoldable pub verdicts : List Example
verdicts =
    row "ratios: half a level is near at distance 1" (judged 3 1 smooth samples (13 ∷ 23 ∷ 35 ∷ [])) (1 ∷ [])
    ∷ row "and not at distance 0, though it is how the filter rounds" (judged 3 0 smooth samples (13 ∷ 23 ∷ 35 ∷ [])) (0 ∷ [])
    ∷ row "a whole level is near at distance 1" (judged 3 1 smooth samples (12 ∷ 22 ∷ 34 ∷ [])) (1 ∷ [])
    ∷ row "one and a half is not" (judged 3 1 smooth samples (11 ∷ 22 ∷ 35 ∷ [])) (0 ∷ [])
    ∷ row "a box: a third of a level" (judged 3 1 (box 1 0) samples (13 ∷ 23 ∷ 33 ∷ [])) (1 ∷ [])
    ∷ row "one and two thirds" (judged 3 1 (box 1 0) samples (13 ∷ 25 ∷ 33 ∷ [])) (0 ∷ [])
    ∷ row "a rank is exact" (judged 3 0 (rank 1 0 2) samples (10 ∷ 20 ∷ 40 ∷ [])) (1 ∷ [])
    ∷ row "the last sample counts" (judged 3 0 (rank 1 0 2) samples (10 ∷ 20 ∷ 41 ∷ [])) (0 ∷ [])
    ∷ row "below 0 the exact result is 0" (judged 3 0 (weighted (three 2 (negsuc 0) (pos 0) (pos 1)) one) (40 ∷ 20 ∷ 10 ∷ []) (0 ∷ 0 ∷ 0 ∷ [])) (1 ∷ [])
    ∷ row "above 255 it is 255" (judged 1 0 (weighted (kernel 1 (tap (pos 0) (pos 4) ∷ [])) one) (100 ∷ []) (255 ∷ [])) (1 ∷ [])
    ∷ row "so 254 is a level away" (judged 1 0 (weighted (kernel 1 (tap (pos 0) (pos 4) ∷ [])) one) (100 ∷ []) (254 ∷ [])) (0 ∷ [])
    ∷ row "both axes: two thirds of a level are near at distance 1" (judged_rows 2 2 1 slanted square (31 ∷ 40 ∷ 40 ∷ 50 ∷ [])) (1 ∷ [])
    ∷ row "one and a third is not" (judged_rows 2 2 1 slanted square (33 ∷ 40 ∷ 40 ∷ 50 ∷ [])) (0 ∷ [])
    ∷ row "the second row counts" (judged_rows 1 2 0 (rank 0 0 1) (10 ∷ 20 ∷ []) (10 ∷ 21 ∷ [])) (0 ∷ [])
    ∷ row "the first channel counts" (coloured 0 (11 ∷ 20 ∷ 30 ∷ [])) (0 ∷ [])
    ∷ row "the last too" (coloured 0 (10 ∷ 20 ∷ 31 ∷ [])) (0 ∷ [])
    ∷ row "all three within one level" (coloured 1 (11 ∷ 19 ∷ 31 ∷ [])) (1 ∷ [])
    ∷ []

-- every definition that an example runs through, opened by one name
opened : Unit {0}
unfolding clamp sum tabulate raster channel closest supply plane_of pick around tap kernel weighted_sum area window insert sort smallest stage denominator numerator exact_plane exact_from denominator_from exact exact_denominator distance channels_of magic_test head_of still_of there head_tests radius_tests work_tests work_length stage_tests stage_length stages_tests recipe_tests near everywhere fit_stage request_tests plan_of all_near row numbers asked stills picture grey refused fits judged_rows judged three one smooth samples slanted square coloured
opened = tt

-- THE WORKED EXAMPLES HOLD, by computation
pub examples_hold : map (λ e. e.found) refusals ≡ map (λ e. e.expected) refusals
unfolding opened refusals
examples_hold = refl

pub verdicts_hold : map (λ e. e.found) verdicts ≡ map (λ e. e.expected) verdicts
unfolding opened verdicts
verdicts_hold = refl
