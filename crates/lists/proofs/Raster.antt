-- Laws of `raster`, and how a loop over rows builds it.
-- Assumes nothing.
use mathlib.Core.Path.{◌≡◌, refl, sym, ◌∙◌, subst}
use mathlib.Core.List.{List, ◌++◌}
use Prim.Native.Nat.{ℕ, zero, suc, ◌+◌, ◌-◌, ◌*◌, ◌≤◌, ◌<◌}
use native.Mathlib.Nat.{not-suc-le-zero, eq-or-lt_of_le, suc-mul, zero-mul, mul-le-mul_right}
use native.Mathlib.Numerals.{add-one}
use native.Mathlib.Omega.{arith}
use lib.ListN.{length, get_or, drop, take, replicate, replicate-append-replicate, length-append, get_or-append}
use lib.Seq.{get_or-append-add}
use mathlib.Core.Logic.{⊎_elim}
use Rattle.lists.specs.Tabulate.{tabulate, raster}
use Rattle.lists.proofs.Tabulate.{length-tabulate, get_d_tabulate, tabulate_ext, tabulate_const}
use Rattle.lists.proofs.Part.{front_more}

-- a row that is inside ends inside
pub row_fits : (v h w : ℕ) → v < h → v * w + w ≤ h * w
row_fits v h w l = subst (λ (n : ℕ). n ≤ h * w) (suc-mul v w ∙ refl) (mul-le-mul_right w l)

-- a place in a row that is inside is inside
pub place_fits : (u v w h : ℕ) → u < w → v < h → v * w + u < h * w
place_fits u v w h a b = omega (arith, row_fits v h w b)

module _ {A : Type 0} where
  pub length-raster : (g : ℕ → ℕ → A) (w h : ℕ) → length (raster g w h) ≡ h * w
  unfolding raster
  length-raster g w zero = sym (zero-mul w)
  length-raster g w (suc h) = rw (length-append, length-raster g w h, length-tabulate, suc-mul)

  pub rows_none : (g : ℕ → ℕ → A) (w : ℕ) (d : List A) → d ≡ raster g w 0 ++ drop 0 d
  unfolding raster
  rows_none g w d = refl

  -- one row more, written by a function that was lent the part that starts at the row
  pub rows_more : (g : ℕ → ℕ → A) (w v at : ℕ) (d l part : List A) → at ≡ v * w → at + w ≤ length d
      → l ≡ raster g w v ++ drop at d
      → part ≡ tabulate (λ u. g u v) w ++ drop w (take (length l - at) (drop at l))
      → take at l ++ (part ++ drop (length l - at) (drop at l)) ≡ raster g w (v + 1) ++ drop (at + w) d
  unfolding raster
  rows_more g w v at d l part e f el ep = rw add-one (front_more (raster g w v) (tabulate (λ u. g u v) w) d l part at w (length-raster g w v ∙ sym e) el ep)

  -- what stands at column u, row v
  pub get_or-raster : (g : ℕ → ℕ → A) (w h u v : ℕ) (d : A) → u < w → v < h → get_or (raster g w h) (v * w + u) d ≡ g u v
  unfolding raster
  get_or-raster g w zero u v d a b = absurd (not-suc-le-zero b)
  get_or-raster g w (suc h) u v d a b =
      let w_le : v ≤ h = omega arith in
      ⊎_elim
      (λ (e : v ≡ h).
      rw (e, ← length-raster g w h, get_or-append-add (raster g w h) (tabulate (λ u. g u h) w) u d, get_d_tabulate (λ u. g u h) w u d))
      (λ (l : v < h). get_or-append (raster g w h) (tabulate (λ u. g u h) w) d (v * w + u) (rw length-raster (place_fits u v w h a l)) ∙ get_or-raster g w h u v d a l)
      (eq-or-lt_of_le w_le)

  pub raster_ext : (f g : ℕ → ℕ → A) (w h : ℕ) → ((u v : ℕ) → u < w → v < h → f u v ≡ g u v) → raster f w h ≡ raster g w h
  unfolding raster
  raster_ext f g w zero k = refl
  raster_ext f g w (suc h) k = rw (raster_ext f g w h (λ u v a b. k u v a (omega arith)), tabulate_ext (λ u. f u h) (λ u. g u h) w (λ u a. k u h a (omega arith)))

  pub raster_const : (c : A) (w h : ℕ) → raster (λ u v. c) w h ≡ replicate (h * w) c
  unfolding raster
  raster_const c w zero = rw zero-mul
  raster_const c w (suc h) = rw (raster_const c w h, tabulate_const c w, suc-mul) (replicate-append-replicate (h * w) w c)
