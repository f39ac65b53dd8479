-- The kinds of stages by their numbers ('Recipe bytes').
use Rattle.std.specs.Prelude.{ℕ, ◌<◌, ◌≡◌, ◌⊎◌, Result, MatchResult}
use Rattle.refusals.specs.declared.Refusal.{Refusal}
use Rattle.stage_fields.specs.declared.Kind.{Kind}
use Rattle.stage_fields.specs.declared.Kind.TheVariants.{Ratios, Reals, Binomial, Box, Rank, Outline}

-- the number of each
abbrev pub number : Kind → ℕ
number Ratios = 1
number Reals = 2
number Binomial = 3
number Box = 4
number Rank = 5
number Outline = 6

-- the kind with this number, or the refusal of a number that no kind has
abbrev pub KindOf : ℕ → Result Kind Refusal → Type 0
KindOf n r = MatchResult r (λ kind. number kind ≡ n) (λ refusal. (refusal ≡ Refusal.Kind) × ((n < 1) ⊎ (6 < n)))
