-- Binomial kernels, kind 3 of 'Recipe bytes'.
use Rattle.std.specs.Prelude.{ℕ, zero, suc, ◌+◌, ◌*◌, ◌^◌, List, [], ◌∷◌, get_or, pos, ◌-ℤ◌}
use Rattle.lists.specs.Tabulate.{tabulate}
use Rattle.model.specs.Kernel.{Kernel, tap, kernel}

-- the sums of neighbours in c, x, y, .., 0
unfoldable pub pair_sums : ℕ → List ℕ → List ℕ
pair_sums c [] = c ∷ []
pair_sums c (x ∷ xs) = (c + x) ∷ pair_sums x xs

-- row n of Pascal's triangle
unfoldable pub pascal_row : ℕ → List ℕ
pascal_row zero = 1 ∷ []
pascal_row (suc n) = pair_sums 0 (pascal_row n)

-- C(n, k)
unfoldable pub choose : ℕ → ℕ → ℕ
choose n k = get_or (pascal_row n) k 0

-- the kernel of radius r: at offset k-r the fraction C(2r,k)/2^(2r), for k from 0 to 2r
unfoldable pub binomial : ℕ → Kernel
binomial r = kernel (2 ^ (2 * r)) (tabulate (λ k. tap (pos k -ℤ pos r) (pos (choose (2 * r) k))) (2 * r + 1))
