-- The mean of a background, and its tolerance.
use Rattle.std.specs.Prelude.{ℕ, ◌+◌, min, cond, List, [], ◌∷◌, ◌++◌, map, length, get_or, drop, leb, eqb, Option, None, Some, Result, Ok, Err}
use Rattle.integers.specs.Divide.{nearest}
use Rattle.integers.specs.Sum.{sum}
use Rattle.lists.specs.Tabulate.{tabulate}
use Rattle.model.specs.Outline.{largest}
use Rattle.refusals.specs.declared.Refusal.{Refusal}
use Rattle.refusals.specs.declared.Refusal.TheVariants as Refusal
use Rattle.refusals.specs.Refusal.{Test, tested}
use Rattle.answers.specs.declared.Mean.{Mean}
use Rattle.background.specs.Background.{Member, Background, stills, samples}
use Rattle.background.specs.Room.{held_of, held_room}

-- the mean of a list of samples, rounded to the nearest, halves up
unfoldable pub mean_of : List ℕ → ℕ
mean_of xs = nearest (sum xs) (length xs)

-- the samples of all members at place j of their rasters
unfoldable pub samples_at : ℕ → List Member → List ℕ
samples_at j ms = map (λ m. get_or m.raster j 0) ms

-- the mean still: a raster of means
unfoldable pub mean_raster : Background → List ℕ
mean_raster b = tabulate (λ j. mean_of (samples_at j b.members)) (samples b)

-- its T: the members' largest plus half a level, at most 16,711,680, which is 255 levels
unfoldable pub mean_tolerance : List Member → ℕ
mean_tolerance ms = min (largest (map (λ m. m.tolerance) ms) + 32768) 16711680

-- the tests of a mean: room for the stills held, and an output of one raster
unfoldable pub mean_tests : ℕ → ℕ → ℕ → Background → List Test
mean_tests bytes words out b = (held_room (held_of b) bytes words, Refusal.Room) ∷ (leb (samples b) out, Refusal.Room) ∷ []

-- the answer: that there are none, before any test; else of how many stills the mean is, its T, and how many bytes are written
unfoldable pub mean_answer : ℕ → ℕ → ℕ → Background → Result (Option Mean) Refusal
mean_answer bytes words out b =
    cond (eqb (stills b) 0) (Ok None)
    (tested Err (mean_tests bytes words out b) (Ok (Some (record { stills = stills b; tolerance = mean_tolerance b.members; len = samples b }))))

-- the output after an answer: the mean still and the old tail, and in every other case as it was
abbrev pub mean_output : Result (Option Mean) Refusal → Background → List ℕ → List ℕ
mean_output (Err r) b out = out
mean_output (Ok None) b out = out
mean_output (Ok (Some m)) b out = mean_raster b ++ drop m.len out
