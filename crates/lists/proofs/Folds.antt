-- A fold whose steps can change places: it gives the same for a row read from the other end, and for a raster of such rows. Assumes nothing.
use Prim.Native.Nat.{ℕ, zero, suc, ◌-◌}
use native.Mathlib.Numerals.{add-one}
use native.Mathlib.Omega.{arith}
use mathlib.Core.Path.{◌≡◌, refl, sym, ap, ◌∙◌}
use mathlib.Core.List.{List, [], ◌∷◌, ◌++◌, foldr}
use Rattle.lists.specs.Tabulate.{tabulate, raster}
use Rattle.lists.proofs.Tabulate.{tabulate_ext, tabulate_last}

-- a row of n + 1, from the other end: what follows the first entry, and the first entry last
from_the_end : {A : Type 0} (f : ℕ → A) (n : ℕ) → tabulate (λ i. f (suc n - 1 - i)) (suc n) ≡ tabulate (λ i. f (suc (n - 1 - i))) n ++ (f 0 ∷ [])
from_the_end f n =
    ap (tabulate (λ i. f (suc n - 1 - i))) (sym (add-one n))
    ∙ tabulate_last (λ i. f (suc n - 1 - i)) n (f 0) (ap f (omega arith))
    ∙ ap (λ row. row ++ (f 0 ∷ [])) (tabulate_ext _ _ n (λ i h. ap f (omega arith)))

module _ {A B : Type 0} (step : A → B → B) (swap : (x y : A) (z : B) → step x (step y z) ≡ step y (step x z)) where
  fold_append : (z : B) (xs ys : List A) → foldr step z (xs ++ ys) ≡ foldr step (foldr step z ys) xs
  fold_append z [] ys = refl
  fold_append z (x ∷ xs) ys = ap (step x) (fold_append z xs ys)

  fold_first : (x : A) (z : B) (xs : List A) → foldr step (step x z) xs ≡ step x (foldr step z xs)
  fold_first x z [] = refl
  fold_first x z (y ∷ ys) = ap (step y) (fold_first x z ys) ∙ swap y x (foldr step z ys)

  pub fold_reversed : (f : ℕ → A) (n : ℕ) (z : B) → foldr step z (tabulate (λ i. f (n - 1 - i)) n) ≡ foldr step z (tabulate f n)
  unfolding tabulate
  fold_reversed f zero z = refl
  fold_reversed f (suc n) z =
      let front = tabulate (λ i. f (suc (n - 1 - i))) n in
      ap (foldr step z) (from_the_end f n)
      ∙ fold_append z front (f 0 ∷ [])
      ∙ fold_first (f 0) z front
      ∙ ap (step (f 0)) (fold_reversed (λ i. f (suc i)) n z)

  pub fold_flipped : (g : ℕ → ℕ → A) (w h : ℕ) (z : B) → foldr step z (raster (λ u v. g (w - 1 - u) v) w h) ≡ foldr step z (raster g w h)
  unfolding raster
  fold_flipped g w zero z = refl
  fold_flipped g w (suc h) z =
      let row = tabulate (λ u. g u h) w in
      fold_append z (raster (λ u v. g (w - 1 - u) v) w h) (tabulate (λ u. g (w - 1 - u) h) w)
      ∙ rw (fold_reversed (λ u. g u h) w z) (fold_flipped g w h (foldr step z row) ∙ sym (fold_append z (raster g w h) row))
