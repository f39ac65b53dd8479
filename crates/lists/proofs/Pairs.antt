-- Two lists of one length whose entries are related pair by pair. Assumes nothing.
use Prim.Native.Nat.{ℕ, zero, suc}
use mathlib.Core.Path.{◌≡◌, refl, ap}
use mathlib.Core.List.{List, [], ◌∷◌, ◌++◌}
use lib.ListN.{length, get_or}
use Rattle.lists.specs.Tabulate.{tabulate, raster}

pub data Pairs {A B : Type 0} (R : A → B → Type 0) : List A → List B → Type 0 where
  none : Pairs R [] []
  more : {y : A} {x : B} {ys : List A} {xs : List B} → R y x → Pairs R ys xs → Pairs R (y ∷ ys) (x ∷ xs)

module _ {A B : Type 0} {R : A → B → Type 0} where
  pub pairs_append : {ys zs : List A} {xs ws : List B} → Pairs R ys xs → Pairs R zs ws → Pairs R (ys ++ zs) (xs ++ ws)
  pairs_append none q = q
  pairs_append (more r p) q = more r (pairs_append p q)

  pub pairs_tabulate : (f : ℕ → A) (g : ℕ → B) (n : ℕ) → ((i : ℕ) → R (f i) (g i)) → Pairs R (tabulate f n) (tabulate g n)
  unfolding tabulate
  pairs_tabulate f g zero h = none
  pairs_tabulate f g (suc n) h = more (h 0) (pairs_tabulate (λ i. f (suc i)) (λ i. g (suc i)) n (λ i. h (suc i)))

  pub pairs_raster : (f : ℕ → ℕ → A) (g : ℕ → ℕ → B) (w h : ℕ) → ((u v : ℕ) → R (f u v) (g u v)) → Pairs R (raster f w h) (raster g w h)
  unfolding raster
  pairs_raster f g w zero k = none
  pairs_raster f g w (suc h) k = pairs_append (pairs_raster f g w h k) (pairs_tabulate (λ u. f u h) (λ u. g u h) w (λ u. k u h))

  pub pairs_flip : {ys : List A} {xs : List B} → Pairs R ys xs → Pairs (λ x y. R y x) xs ys
  pairs_flip none = none
  pairs_flip (more r p) = more r (pairs_flip p)

  pub pairs_length : {ys : List A} {xs : List B} → Pairs R ys xs → length ys ≡ length xs
  pairs_length none = refl
  pairs_length (more r p) = ap suc (pairs_length p)

  -- at every index, past the end too if the defaults are related
  pub pairs_at : (a : A) (b : B) → R a b → {ys : List A} {xs : List B} → Pairs R ys xs → (i : ℕ) → R (get_or ys i a) (get_or xs i b)
  pairs_at a b d none i = d
  pairs_at a b d (more r p) zero = r
  pairs_at a b d (more r p) (suc i) = pairs_at a b d p i
