-- What two written samples y and y' of one place tell of the movement between their stills, under a limit of L levels: y has the tolerance T, and y' has T'.
use Rattle.std.specs.Prelude.{ℕ, ◌+◌, ◌*◌, Bool, cond, leb, ltb}
use Rattle.model.specs.Within.{distance}

-- a sample has surely moved, or is surely still, or is open; that word is taken here, so `unsettled` stands for it
pub data Motion : Type 0 where
  moved still unsettled : Motion

-- surely moved: the magnitude of the written difference, in 65,536ths, passes 65,536·L plus both tolerances
unfoldable pub surely_moved : ℕ → ℕ → ℕ → ℕ → ℕ → Bool
surely_moved L T T' y y' = ltb (65536 * L + (T + T')) (65536 * distance y y')

-- surely still: that magnitude plus both tolerances is at most 65,536·L
unfoldable pub surely_still : ℕ → ℕ → ℕ → ℕ → ℕ → Bool
surely_still L T T' y y' = leb (65536 * distance y y' + (T + T')) (65536 * L)

-- which of the three: open is what is neither
unfoldable pub motion : ℕ → ℕ → ℕ → ℕ → ℕ → Motion
motion L T T' y y' = cond (surely_moved L T T' y y') moved (cond (surely_still L T T' y y') still unsettled)
