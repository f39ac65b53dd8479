-- Rank work ('The three kinds of work') on a neighbourhood.
use Rattle.std.specs.Prelude.{ℕ, ◌-◌, cond, List, [], ◌∷◌, leb, get_or}
use Rattle.model.specs.Plane.{Neighbourhood}
use Rattle.model.specs.Window.{window}

-- x put into its place in a sorted list
unfoldable pub insert : ℕ → List ℕ → List ℕ
insert x [] = x ∷ []
insert x (y ∷ ys) = cond (leb x y) (x ∷ y ∷ ys) (y ∷ insert x ys)

-- smallest first, equals kept
unfoldable pub sort : List ℕ → List ℕ
sort [] = []
sort (x ∷ xs) = insert x (sort xs)

-- the p-th smallest, p from 1: a value that occurs k times takes k positions
unfoldable pub smallest : ℕ → List ℕ → ℕ
smallest p xs = get_or (sort xs) (p - 1) 0

-- the p-th smallest sample in a window of radii r, s
unfoldable pub rank_result : ℕ → ℕ → ℕ → Neighbourhood → ℕ
rank_result r s p f = smallest p (window r s f)
