-- Tests that hold everywhere. Assumes nothing.
use Prim.Native.Nat.{ℕ, zero, suc, ◌+◌, ◌<◌}
use native.Mathlib.Nat.{eq-or-lt_of_le, le_of_suc-le-suc}
use native.Mathlib.Numerals.{add-one}
use native.Mathlib.Omega.{arith}
use mathlib.Core.Logic.{⊎_elim}
use mathlib.Core.Path.{◌≡◌, refl, ap, ◌∙◌}
use mathlib.Core.Bool.{Bool, true, false, ◌&&◌, and-eq-true_iff}
use Rattle.near_rows.specs.Everywhere.{everywhere}

module _ (p : ℕ → Bool) where
  pub everywhere-none : everywhere 0 p ≡ true
  unfolding everywhere
  everywhere-none = refl

  -- one place more where it holds
  pub everywhere-more : (n : ℕ) → everywhere n p ≡ true → p n ≡ true → everywhere (n + 1) p ≡ true
  unfolding everywhere
  everywhere-more n e h = rw (add-one, e, h) refl

  -- it holds at each place
  pub everywhere-at : (n : ℕ) → everywhere n p ≡ true → (i : ℕ) → i < n → p i ≡ true
  unfolding everywhere
  everywhere-at zero e i h = absurd (omega arith)
  everywhere-at (suc n) e i h =
      let both = (and-eq-true_iff (everywhere n p) (p n)).0 e in
      ⊎_elim (λ s. rw s both.1) (λ l. everywhere-at n both.0 i l) (eq-or-lt_of_le (le_of_suc-le-suc h))

  -- where it holds at each place, it does everywhere
  pub everywhere-all : (n : ℕ) → ((i : ℕ) → i < n → p i ≡ true) → everywhere n p ≡ true
  unfolding everywhere
  everywhere-all zero h = refl
  everywhere-all (suc n) h = rw (everywhere-all n (λ i b. h i (omega (arith, b))), h n (omega arith)) refl

  -- one place where it does not is enough
  pub everywhere_fails : (n i : ℕ) → i < n → p i ≡ false → everywhere n p ≡ false
  unfolding everywhere
  everywhere_fails zero i h e = absurd (omega arith)
  everywhere_fails (suc n) i h e = ⊎_elim (λ s. ap (λ (b : Bool). everywhere n p && b) (rw s at e) ∙ last (everywhere n p)) (λ l. rw (everywhere_fails n i l e) refl) (eq-or-lt_of_le (le_of_suc-le-suc h))
    where
      last : (b : Bool) → b && false ≡ false
      last true = refl
      last false = refl

-- only what is tested counts
pub everywhere_ext : (p q : ℕ → Bool) (n : ℕ) → ((i : ℕ) → i < n → p i ≡ q i) → everywhere n p ≡ everywhere n q
unfolding everywhere
everywhere_ext p q zero h = refl
everywhere_ext p q (suc n) h = rw (everywhere_ext p q n (λ i b. h i (omega (arith, b))), h n (omega arith)) refl
