-- A supplied index as the code holds it.
use Rattle.std.specs.Prelude.{ℕ, Option, Some, None}
use Rattle.std.proofs.Math.Option as Math

-- a supplied index, or none where the border value is
unfoldable pub place_of : Math.Option ℕ → Option ℕ
place_of Math.none = None
place_of (Math.some k) = Some k
