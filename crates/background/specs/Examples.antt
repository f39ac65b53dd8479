-- Worked examples of the background. A row names the case, what the definitions give, and what they should give. The theorem at the end goes over all rows.
use Rattle.std.specs.Prelude.{ℕ, cond, List, [], ◌∷◌, ◌++◌, map, ◌≡◌, refl, replicate, Option, None, Some, Result, Ok, Err}
use Prim.Native.String.{String}
use Rattle.integers.specs.Sum.{sum}
use Rattle.lists.specs.Tabulate.{tabulate}
use Rattle.model.specs.Outline.{largest}
use Rattle.text.specs.Text.{is_space, gap, is_digit, digits, value_from, value}
use Rattle.header_reader.specs.Header.{field_after, field, header_of, height_field, maximum_field, header}
use Rattle.picture_sizes.specs.PictureSize.{is_side}
use Rattle.still_reader.specs.Head.{channels_of, magic_test, header_tests, announced, head_of}
use Rattle.still_reader.specs.Read.{still_of}
use Rattle.refusals.specs.declared.Refusal.{Refusal}
use Rattle.refusals.specs.declared.Refusal.TheVariants as Refusal
use Rattle.refusals.specs.Refusal.{number}
use Rattle.answers.specs.declared.Held.{Held}
use Rattle.answers.specs.declared.Mean.{Mean}
use Rattle.background.specs.Background.{Member, member, Background, empty, numbers, position, present}
use Rattle.background.specs.Room.{room_for, small_numbers, held_room}
use Rattle.background.specs.Change.{Outcome, suits, add_tests, addition_of, addition, remove_tests, without, removal}
use Rattle.background.specs.Mean.{mean_of, samples_at, mean_raster, mean_tolerance, mean_tests, mean_answer, mean_output}
use Rattle.background.specs.Memory.{slot, member_in, background_in}
use Rattle.background.specs.History.{Addition, Operation, adds, removes, outcome, after_outcome, history, except, survivors}
use Rattle.background.specs.ExactMean.{Measured, common_denominator, exact_total}

pub record Example : Type 0 where
  pub name : String
  pub found : List ℕ
  pub expected : List ℕ

unfoldable pub row : String → List ℕ → List ℕ → Example
row n f e = record { name = n; found = f; expected = e }

-- a grey still of one row added, with so many bytes and labels lent: its number, its T, its width and its samples
unfoldable pub adding : ℕ → ℕ → ℕ → ℕ → ℕ → List ℕ → Background → Outcome
adding rasters labels n T W s b = addition_of (Ok (record { width = W; height = 1; channels = 1; start = 0 })) s n T rasters labels b

-- the same with ample memory, and the background after it
unfoldable pub add : ℕ → ℕ → ℕ → List ℕ → Background → Background
add n T W s b = after_outcome (adding 999 999 n T W s b) b

unfoldable pub remove : ℕ → Background → Background
remove n b = after_outcome (removal n 999 999 b) b

-- the number of a change's refusal, or 0
unfoldable pub refusal : Outcome → ℕ
refusal (Err r) = number r
refusal (Ok b) = 0

-- an answer as numbers: a refusal's, none where no stills are held, or how many stills, T and how many bytes
unfoldable pub answered : Result (Option Mean) Refusal → List ℕ
answered (Err r) = number r ∷ []
answered (Ok None) = []
answered (Ok (Some m)) = m.stills ∷ m.tolerance ∷ m.len ∷ []

-- T and the mean still
unfoldable pub mean : Background → List ℕ
mean b = mean_tolerance b.members ∷ mean_raster b

-- stills 7, 8 and 9 of two samples
unfoldable pub one : Background
one = add 7 100 2 (10 ∷ 250 ∷ []) empty

unfoldable pub two : Background
two = add 8 300 2 (11 ∷ 255 ∷ []) one

unfoldable pub three : Background
three = add 9 200 2 (13 ∷ 0 ∷ []) two

-- a background of n stills of two samples
unfoldable pub many : ℕ → Background
many n = record { width = 2; height = 1; channels = 1; members = replicate n (member 0 0 (0 ∷ 0 ∷ [])) }

-- what is held, by value
unfoldable pub holding : ℕ → ℕ → ℕ → ℕ → Held
holding k W H c = record { count = k; width = W; height = H; channels = c }

-- members as numbers: number, T and samples of each
unfoldable pub listed : List Member → List ℕ
listed [] = []
listed (m ∷ ms) = m.number ∷ m.tolerance ∷ (m.raster ++ listed ms)

-- the file of a grey still of two samples added, with ample memory
unfoldable pub still : ℕ → ℕ → ℕ → Operation
still n x y = adds (record { file = 80 ∷ 53 ∷ 10 ∷ 50 ∷ 32 ∷ 49 ∷ 10 ∷ 50 ∷ 53 ∷ 53 ∷ 10 ∷ x ∷ y ∷ []; number = n; tolerance = 0; bytes = 999; words = 999 })

-- still 7 comes twice, the second time refused; still 8 comes, 7 goes
unfoldable pub come_and_gone : List Operation
come_and_gone = still 7 1 2 ∷ still 7 3 4 ∷ still 8 5 6 ∷ removes 7 999 999 ∷ []

-- one over n, as an exact still of one sample
unfoldable pub part : ℕ → Measured
part n = record { member = member 0 0 (0 ∷ []); numerators = 1 ∷ []; denominator = n }

unfoldable pub parts : List Measured
parts = part 2 ∷ part 3 ∷ part 5 ∷ []

unfoldable pub rows : List Example
rows =
    row "two stills in memory" (listed (background_in (holding 2 2 1 1) (10 ∷ 250 ∷ 11 ∷ 255 ∷ 99 ∷ []) (7 ∷ 100 ∷ 8 ∷ 300 ∷ 99 ∷ [])).members) (7 ∷ 100 ∷ 10 ∷ 250 ∷ 8 ∷ 300 ∷ 11 ∷ 255 ∷ [])
    ∷ row "the number comes before the size" (refusal (adding 999 999 8 0 1 (0 ∷ []) three) ∷ []) (23 ∷ [])
    ∷ row "one still is its own mean" (mean one) (32868 ∷ 10 ∷ 250 ∷ [])
    ∷ row "of two, halves go up" (mean two) (33068 ∷ 11 ∷ 253 ∷ [])
    ∷ row "of three: 34/3 and 505/3" (mean three) (33068 ∷ 11 ∷ 168 ∷ [])
    ∷ row "a mean of thirds goes up from two thirds" (mean_of (1 ∷ 2 ∷ 2 ∷ []) ∷ mean_of (1 ∷ 1 ∷ 2 ∷ []) ∷ []) (2 ∷ 1 ∷ [])
    ∷ row "a removal in the middle: the last moves into the gap" (numbers (remove 7 three) ++ numbers (remove 8 three) ++ numbers (remove 9 three)) (9 ∷ 8 ∷ 7 ∷ 9 ∷ 7 ∷ 8 ∷ [])
    ∷ row "its mean is that of the stills left" (mean (remove 8 three)) (32968 ∷ 12 ∷ 125 ∷ [])
    ∷ row "a refused addition: the number, then the size, and the same mean" (refusal (adding 999 999 8 0 2 (0 ∷ 0 ∷ []) three) ∷ refusal (adding 999 999 6 0 1 (0 ∷ []) three) ∷ mean (add 8 0 2 (0 ∷ 0 ∷ []) three)) (23 ∷ 24 ∷ 33068 ∷ 11 ∷ 168 ∷ [])
    ∷ row "a removal of a number that is not there" (refusal (removal 6 999 999 three) ∷ refusal (removal 6 999 999 empty) ∷ []) (23 ∷ 23 ∷ [])
    ∷ row "room for the stills held comes first, room for one more last" (refusal (adding 5 6 8 0 1 (0 ∷ []) three) ∷ refusal (adding 6 5 8 0 1 (0 ∷ []) three) ∷ refusal (adding 7 8 6 0 2 (0 ∷ 0 ∷ []) three) ∷ refusal (adding 8 7 6 0 2 (0 ∷ 0 ∷ []) three) ∷ refusal (adding 8 8 6 0 2 (0 ∷ 0 ∷ []) three) ∷ []) (20 ∷ 20 ∷ 20 ∷ 20 ∷ 0 ∷ [])
    ∷ row "a removal needs room for all that is held" (refusal (removal 9 5 6 three) ∷ refusal (removal 9 6 5 three) ∷ refusal (removal 9 6 6 three) ∷ []) (20 ∷ 20 ∷ 0 ∷ [])
    ∷ row "an emptied background takes another size" (mean (add 5 0 3 (1 ∷ 2 ∷ 3 ∷ []) (remove 7 one))) (32768 ∷ 1 ∷ 2 ∷ 3 ∷ [])
    ∷ row "T is cut to 255 levels" (mean (add 5 16678912 1 (4 ∷ []) empty) ++ mean (add 5 16678913 1 (4 ∷ []) empty) ++ mean (add 5 4294967295 1 (4 ∷ []) empty)) (16711680 ∷ 4 ∷ 16711680 ∷ 4 ∷ 16711680 ∷ 4 ∷ [])
    ∷ row "width, height and channels have to be those held" (map (λ h. cond (suits 2 1 1 h) 1 0) (holding 1 2 1 1 ∷ holding 1 3 1 1 ∷ holding 1 2 2 1 ∷ holding 1 2 1 3 ∷ holding 0 3 2 3 ∷ [])) (1 ∷ 0 ∷ 0 ∷ 0 ∷ 1 ∷ [])
    ∷ row "the thousandth still is taken, the next is not: the size comes before that, room behind it" (refusal (adding 2000 2000 5 0 2 (0 ∷ 0 ∷ []) (many 999)) ∷ refusal (adding 2000 2000 5 0 2 (0 ∷ 0 ∷ []) (many 1000)) ∷ refusal (adding 2000 2000 5 0 1 (0 ∷ []) (many 1000)) ∷ []) (0 ∷ 25 ∷ 24 ∷ [])
    ∷ row "a still that cannot be read is refused before all else" (refusal (addition_of (Err Refusal.RasterShort) [] 8 0 0 0 three) ∷ []) (5 ∷ [])
    ∷ row "numbers of more than 16 bits have no room, where there are stills" (map (λ h. cond (held_room h 99999 99999) 1 0) (holding 1 65535 1 1 ∷ holding 1 65536 1 1 ∷ holding 0 65536 1 1 ∷ [])) (1 ∷ 0 ∷ 1 ∷ [])
    ∷ row "none are held, whatever is lent" (answered (mean_answer 0 0 0 empty)) []
    ∷ row "a mean whose output is too short, and one that fits" (answered (mean_answer 999 999 1 two) ++ answered (mean_answer 999 999 2 two)) (20 ∷ 2 ∷ 33068 ∷ 2 ∷ [])
    ∷ row "the tail of the output stays, and all of it where none are held" (mean_output (mean_answer 999 999 3 two) two (1 ∷ 2 ∷ 3 ∷ []) ++ mean_output (mean_answer 999 999 1 empty) empty (9 ∷ [])) (11 ∷ 253 ∷ 3 ∷ 9 ∷ [])
    ∷ row "what is left: 8, and not the 7 that went or the 7 that was refused" (map (λ a. a.number) (survivors come_and_gone empty []) ++ listed (history come_and_gone empty).members) (8 ∷ 8 ∷ 0 ∷ 5 ∷ 6 ∷ [])
    ∷ row "the exact values 1/2, 1/3 and 1/5 come to 31/30" (common_denominator parts ∷ exact_total 0 parts ∷ []) (30 ∷ 31 ∷ [])
    ∷ []

-- every definition that an example runs through, opened by one name
opened : Unit {0}
unfolding sum tabulate largest is_space gap is_digit digits value_from value field_after field header_of height_field maximum_field header is_side channels_of magic_test header_tests announced head_of still_of position present room_for small_numbers held_room suits add_tests addition remove_tests without removal mean_of samples_at mean_raster mean_tolerance mean_tests mean_answer slot member_in background_in outcome history except survivors common_denominator exact_total row adding add remove refusal answered mean one two three many holding listed still come_and_gone part parts
opened = tt

-- THE WORKED EXAMPLES HOLD, by computation
pub examples_hold : map (λ e. e.found) rows ≡ map (λ e. e.expected) rows
unfolding opened rows
examples_hold = refl
