-- The motions of all samples of two rasters, and how many there are of each kind.
use Rattle.std.specs.Prelude.{ℕ, ◌≡◌, Bool, true, false, List, length, get_or}
use Rattle.lists.specs.Count.{count}
use Rattle.lists.specs.Tabulate.{tabulate}
use Rattle.movement.specs.Motion.{Motion, moved, still, unsettled, motion}

-- a motion for each sample of two rasters of one length, place by place
unfoldable pub motions : ℕ → ℕ → ℕ → List ℕ → List ℕ → List Motion
motions L T T' xs ys = tabulate (λ i. motion L T T' (get_or xs i 0) (get_or ys i 0)) (length xs)

-- the three kinds as tests
abbrev pub is_moved : Motion → Bool
is_moved moved = true
is_moved still = false
is_moved unsettled = false

abbrev pub is_still : Motion → Bool
is_still moved = false
is_still still = true
is_still unsettled = false

abbrev pub is_open : Motion → Bool
is_open moved = false
is_open still = false
is_open unsettled = true

-- how many of some motions are of each kind
abbrev pub moved_count : List Motion → ℕ
moved_count ms = count is_moved ms

abbrev pub still_count : List Motion → ℕ
still_count ms = count is_still ms

abbrev pub open_count : List Motion → ℕ
open_count ms = count is_open ms

-- so many of some motions have moved, are still and are open
pub record Counted (ms : List Motion) (m s o : ℕ) : Type 0 where
  pub moved-are : m ≡ moved_count ms
  pub still-are : s ≡ still_count ms
  pub open-are : o ≡ open_count ms
