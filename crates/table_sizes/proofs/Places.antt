-- Places in a ring of n rows of w entries: row y lies at y modulo n. Assumes nothing.
use Prim.Native.Nat.{ℕ, ◌+◌, ◌*◌, ◌/◌, ◌%◌, ◌≤◌, ◌<◌}
use native.Mathlib.Nat.{mod-lt, mod_self, mod-eq_of_lt, mod-add-mod, mod-add-div, add-mod_right, mul-le-mul_left, lt_of_not-le, le_of_mul-le-mul_right, lt_of_mul-lt-mul_right}
use native.Mathlib.Decide.{dec_le}
use native.Mathlib.Omega.{arith}
use mathlib.Core.Path.{◌≡◌, sym, ap, ◌∙◌}
use mathlib.Core.Logic.{◌⊎◌, inl, inr}
use Rattle.lists.proofs.Raster.{row_fits}

module _ (n w : ℕ) where
  -- the row after another lies behind it
  pub place_behind : (y : ℕ) → y % n * w + w < n * w → y % n * w + w ≡ (y + 1) % n * w
  place_behind y h =
      let inside : y % n + 1 < n = lt_of_mul-lt-mul_right w (omega (arith, h)) in
      omega (arith, ap (λ (i : ℕ). i * w) (sym (mod-add-mod y n 1) ∙ mod-eq_of_lt inside))

  module _ (some-row : 1 ≤ n) where
    -- or at the front, where the ring ends
    pub place_front : (y : ℕ) → 1 ≤ w → n * w ≤ y % n * w + w → 0 ≡ (y + 1) % n * w
    place_front y b h =
        let past : n ≤ y % n + 1 = le_of_mul-le-mul_right {k = w} (omega (arith, h)) b in
        let full : y % n + 1 ≡ n = omega (arith, mod-lt y some-row, past) in
        omega (arith, ap (λ (i : ℕ). i * w) (sym (mod-add-mod y n 1) ∙ ap (λ (i : ℕ). i % n) full ∙ mod_self n))

    -- every row ends inside
    pub place_inside : (y : ℕ) → y % n * w + w ≤ n * w
    place_inside y = row_fits (y % n) n w (mod-lt y some-row)

  -- n rows on the ring begins again
  pub place_again : (y : ℕ) → (y + n) % n * w ≡ y % n * w
  place_again y = rw (add-mod_right y n)

  -- of n rows no two have one place
  two_places : (y k : ℕ) → y < k → k < y + n → ¬ (y % n ≡ k % n)
  two_places y k a b e = go (dec_le (y / n + 1) (k / n))
    where
      go : Dec (y / n + 1 ≤ k / n) → ⊥
      go (yes h) = omega (arith, a, b, e, mod-add-div y n, mod-add-div k n, mul-le-mul_left n h)
      go (no h) = let l : k / n ≤ y / n = omega (arith, lt_of_not-le h) in omega (arith, a, b, e, mod-add-div y n, mod-add-div k n, mul-le-mul_left n l)

  -- so they lie apart
  pub rows_apart : (y k : ℕ) → 1 ≤ n → y < k → k < y + n → (y % n * w + w ≤ k % n * w) ⊎ (k % n * w + w ≤ y % n * w)
  rows_apart y k b l h = go (dec_le (y % n + 1) (k % n)) (dec_le (k % n + 1) (y % n))
    where
      go : Dec (y % n + 1 ≤ k % n) → Dec (k % n + 1 ≤ y % n) → (y % n * w + w ≤ k % n * w) ⊎ (k % n * w + w ≤ y % n * w)
      go (yes q) _ = inl (row_fits (y % n) (k % n) w (omega (arith, q)))
      go (no _) (yes q) = inr (row_fits (k % n) (y % n) w (omega (arith, q)))
      go (no p) (no q) = absurd (two_places y k l h (omega (arith, lt_of_not-le p, lt_of_not-le q)))
