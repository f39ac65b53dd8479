-- What a verdict is asked for comes to before the first sample is compared: the first refusal, or two pictures of one size.
use Rattle.std.specs.Prelude.{ℕ, ◌*◌, Bool, ◌&&◌, ◌||◌, List, [], ◌∷◌, ◌++◌, leb, eqb, Result, Ok, Err}
use Rattle.refusals.specs.declared.Refusal.{Refusal}
use Rattle.refusals.specs.declared.Refusal.TheVariants as Refusal
use Rattle.refusals.specs.Refusal.{Test, tested}
use Rattle.answers.specs.declared.Picture.{Picture}
use Rattle.still_reader.specs.Read.{still_of}
use Rattle.recipe_bytes.specs.Bytes.{at}
use Rattle.recipe.specs.Recipe.{recipe_tests}
use Rattle.verdict_answers.specs.declared.Comparison.{Comparison}

-- whether an accepted recipe has one stage, and that is of ratios (kind 1), a box (4) or a rank (5)
unfoldable pub fit_stage : List ℕ → Bool
fit_stage recipe = eqb (at recipe 0) 1 && (eqb (at recipe 1) 1 || (eqb (at recipe 1) 4 || eqb (at recipe 1) 5))

-- the tests of a distance of c levels and of the recipe, in their order: 32 comes first, then the recipe's own, then 30
unfoldable pub request_tests : ℕ → List ℕ → List Test
request_tests c recipe = (leb c 255, Refusal.DistanceLimit) ∷ recipe_tests recipe ++ (fit_stage recipe, Refusal.VerdictStage) ∷ []

-- whether two pictures have one width, one height and as many channels
abbrev pub same_size : Picture → Picture → Bool
same_size p q = eqb p.width q.width && (eqb p.height q.height && eqb p.channels q.channels)

-- the tests of two pictures: 31 where size or channels differ, and then 20 where fewer work bytes are lent than one channel has samples
abbrev pub pair_tests : Picture → Picture → ℕ → List Test
pair_tests p q works =
    (same_size p q, Refusal.ReceivedSize)
    ∷ (leb (p.width * p.height) works, Refusal.Room)
    ∷ []

-- what is compared of two pictures of one size: it, and where the raster of each begins
abbrev pub comparison_of : Picture → Picture → Comparison
comparison_of p q = record { width = p.width; height = p.height; channels = p.channels; raw = p.start; received = q.start }

-- both stills: the raw one's refusals, then the received one's, then those of the pair
abbrev pub stills_plan : ℕ → Result Picture Refusal → Result Picture Refusal → Result Comparison Refusal
stills_plan works (Err refusal) received = Err refusal
stills_plan works (Ok p) (Err refusal) = Err refusal
stills_plan works (Ok p) (Ok q) = tested Err (pair_tests p q works) (Ok (comparison_of p q))

-- all tests in their order
unfoldable pub plan_of : ℕ → List ℕ → List ℕ → List ℕ → ℕ → Result Comparison Refusal
plan_of c recipe raw received works = tested Err (request_tests c recipe) (stills_plan works (still_of raw) (still_of received))
