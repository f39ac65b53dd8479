-- The order in which two runs are tested: by what each comes to by itself, as the file call would answer whatever is lent, and by the tests of what is lent to each.
use Rattle.std.specs.Prelude.{ℕ, Bool, false, ◌&&◌, List, [], ◌∷◌, ◌++◌, leb, eqb, Result, Ok, Err}
use Rattle.refusals.specs.declared.Refusal.{Refusal}
use Rattle.refusals.specs.declared.Refusal.TheVariants as Refusal
use Rattle.refusals.specs.Refusal.{Test}
use Rattle.answers.specs.declared.Filtered.{Filtered}

-- a refusal as a test that fails; a picture passes
abbrev pub refusal_tests : Result Filtered Refusal → List Test
refusal_tests (Err refusal) = (false, refusal) ∷ []
refusal_tests (Ok p) = []

-- whether two pictures have the same width, height and channels
abbrev pub same_size : Result Filtered Refusal → Result Filtered Refusal → Bool
same_size (Err refusal) second = false
same_size (Ok p) (Err refusal) = false
same_size (Ok p) (Ok q) = eqb p.width q.width && eqb p.height q.height && eqb p.channels q.channels

-- the limit (27); the first recipe's refusals and the first still's; the second recipe's and the second still's; the sizes (26); what is lent to the first run, and to the second (20)
unfoldable pub in_order : ℕ → Result Filtered Refusal → Result Filtered Refusal → List Test → List Test → List Test
in_order L first second lent1 lent2 =
    (leb L 255, Refusal.MovementLimit)
    ∷ refusal_tests first
    ++ refusal_tests second
    ++ (same_size first second, Refusal.SizesDiffer)
    ∷ lent1
    ++ lent2
