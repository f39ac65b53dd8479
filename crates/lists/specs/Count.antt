-- Counting.
use Rattle.std.specs.Prelude.{ℕ, ◌+◌, Bool, cond, List, [], ◌∷◌, leb}

-- how many elements pass a test
unfoldable pub count : {A : Type 0} → (A → Bool) → List A → ℕ
count p [] = 0
count p (x ∷ xs) = cond (p x) 1 0 + count p xs

-- how many numbers are at most v
abbrev pub at_most : ℕ → List ℕ → ℕ
at_most v xs = count (λ x. leb x v) xs
