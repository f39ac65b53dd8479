-- Histograms: how many samples have each of the 256 grey levels.
use Rattle.std.specs.Prelude.{ℕ, zero, suc, ◌+◌, List, get_or, eqb, ltb}
use Rattle.lists.specs.Tabulate.{tabulate}
use Rattle.lists.specs.Count.{count}

-- how many of some samples are of level g
abbrev pub at_level : ℕ → List ℕ → ℕ
at_level g xs = count (λ x. eqb x g) xs

-- how many are below it
abbrev pub below_level : ℕ → List ℕ → ℕ
below_level g xs = count (λ x. ltb x g) xs

-- counts of the levels, with some samples counted more
unfoldable pub counted : List ℕ → List ℕ → List ℕ
counted counts xs = tabulate (λ g. get_or counts g 0 + at_level g xs) 256

-- the counts of the levels among some samples
unfoldable pub histogram : List ℕ → List ℕ
histogram xs = tabulate (λ g. at_level g xs) 256

-- the sum of the first n counts: how many samples are below level n
unfoldable pub total : List ℕ → ℕ → ℕ
total counts zero = 0
total counts (suc n) = total counts n + get_or counts n 0
