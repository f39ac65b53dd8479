-- Lists that are given by a function.
use Rattle.std.specs.Prelude.{ℕ, zero, suc, List, [], ◌∷◌, ◌++◌}

-- f 0, f 1, .., f (n - 1)
unfoldable pub tabulate : {A : Type 0} → (ℕ → A) → ℕ → List A
tabulate f zero = []
tabulate f (suc n) = f 0 ∷ tabulate (λ i. f (suc i)) n

-- h rows of w entries, row by row: f u v at column u, row v
unfoldable pub raster : {A : Type 0} → (ℕ → ℕ → A) → ℕ → ℕ → List A
raster f w zero = []
raster f w (suc h) = raster f w h ++ tabulate (λ u. f u h) w
