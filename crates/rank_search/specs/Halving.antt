-- The search of the p-th smallest sample among levels that are halved.
use Rattle.std.specs.Prelude.{ℕ, ◌+◌, ◌-◌, cond, List, ltb}
use Rattle.lists.specs.Count.{at_most}

-- the lowest level that is left, by how many samples are at most the largest level of the lower half
unfoldable pub halved : ℕ → ℕ → List ℕ → ℕ → ℕ
halved p half xs low = cond (ltb (at_most (low + (half - 1)) xs) p) (low + half) low
