-- Tests that hold everywhere.
use Rattle.std.specs.Prelude.{ℕ, zero, suc, Bool, true, ◌&&◌}

-- whether a test holds of each number below n
unfoldable pub everywhere : ℕ → (ℕ → Bool) → Bool
everywhere zero p = true
everywhere (suc n) p = everywhere n p && p n
