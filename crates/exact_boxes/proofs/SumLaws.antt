-- Sums of tabulated values: one value more, one place on, and of a raster by its columns. Assumes nothing.
use Prim.Native.Nat.{ℕ, zero, suc, ◌+◌, ◌*◌, ◌^◌, ◌≤◌, ◌<◌}
use native.Mathlib.Nat.{add-zero}
use native.Mathlib.Numerals.{add-one}
use native.Mathlib.Omega.{arith}
use mathlib.Core.Path.{◌≡◌, refl, sym, ap, ◌∙◌}
use lib.IntN.{ℤ, pos, negsuc, nat_abs, ◌+ℤ◌, ◌-ℤ◌}
use mir.Syntax.{w32}
use mir.Val.{SFits}
use Rattle.integers.specs.Sum.{sum, sumℤ}
use Rattle.integers.proofs.Parts.{pos_part, neg_part, parts_ext, add_parts, sub_parts, abs_add}
use Rattle.lists.specs.Tabulate.{tabulate, raster}
use Rattle.lists.proofs.Tabulate.{tabulate_ext}
use Rattle.lists.proofs.Sums.{sum_append, sum_more, sum_bound}

-- ---- natural numbers

-- the sum of sums of two
sum_both : (f g : ℕ → ℕ) (n : ℕ) → sum (tabulate (λ i. f i + g i) n) ≡ sum (tabulate f n) + sum (tabulate g n)
unfolding sum tabulate
sum_both f g zero = refl
sum_both f g (suc n) = omega (arith, sum_both (λ i. f (suc i)) (λ i. g (suc i)) n)

-- a sum row by row is one by columns
pub sum_columns : (g : ℕ → ℕ → ℕ) (w h : ℕ) → sum (raster g w h) ≡ sum (tabulate (λ i. sum (tabulate (g i) h)) w)
unfolding sum raster
sum_columns g w zero = omega (arith, sum_bound (λ i. sum (tabulate (g i) 0)) w 0 (λ i b. sum_bound (g i) 0 0 (λ j k. absurd (omega (arith, k)))))
sum_columns g w (suc h) =
    sum_append (raster g w h) (tabulate (λ u. g u h) w)
    ∙ ap (λ (m : ℕ). m + sum (tabulate (λ u. g u h) w)) (sum_columns g w h)
    ∙ sym (sum_both (λ i. sum (tabulate (g i) h)) (λ u. g u h) w)
    ∙ ap sum (tabulate_ext _ _ w (λ i _. sym (rw add-one at (sum_more (g i) h))))

-- ---- integers

-- the size of a word of 32 bits
pub word_size : (z : ℤ) → SFits w32 z → nat_abs z ≤ 2 ^ 31
word_size (pos a) f = omega (arith, f.sfits)
word_size (negsuc a) f = omega (arith, f.sfits)

-- one value more, counted in two ways
sumℤ-suc : (f : ℕ → ℤ) (n : ℕ) → sumℤ (tabulate f (suc n)) ≡ sumℤ (tabulate f n) +ℤ f n
unfolding sumℤ tabulate
sumℤ-suc f zero = parts_ext _ _ (omega (arith, add_parts (f 0) (pos 0), add_parts (pos 0) (f 0)))
sumℤ-suc f (suc n) =
    let s = sumℤ (tabulate (λ i. f (suc i)) n) in
    rw (sumℤ-suc (λ i. f (suc i)) n) (parts_ext _ _ (omega (arith, add_parts s (f (suc n)), add_parts (f 0) (s +ℤ f (suc n)), add_parts (f 0) s, add_parts (f 0 +ℤ s) (f (suc n)))))

pub sumℤ-more : (f : ℕ → ℤ) (n : ℕ) → sumℤ (tabulate f (n + 1)) ≡ sumℤ (tabulate f n) +ℤ f n
sumℤ-more f n = rw add-one (sumℤ-suc f n)

-- the places from the next one on
next_places : {A : Type 0} (g : ℕ → A) (u n : ℕ) → tabulate (λ i. g (u + suc i)) n ≡ tabulate (λ i. g (u + 1 + i)) n
next_places g u n = tabulate_ext _ _ n (λ i _. ap g (place i))
  where
    place : (i : ℕ) → u + suc i ≡ u + 1 + i
    place i = omega arith

-- one place on, the first value leaves and the next enters
pub sumℤ_slide : (g : ℕ → ℤ) (u n : ℕ) → g u +ℤ sumℤ (tabulate (λ i. g (u + 1 + i)) n) ≡ sumℤ (tabulate (λ i. g (u + i)) n) +ℤ g (u + n)
unfolding sumℤ tabulate
sumℤ_slide g u n = rw (add-zero, next_places g u n) at (sumℤ-suc (λ i. g (u + i)) n)

-- a sum that a leaves and b enters
pub exchanged : (s t a b : ℤ) → a +ℤ t ≡ s +ℤ b → s -ℤ a +ℤ b ≡ t
exchanged s t a b e =
    parts_ext _ _ (omega (arith, sub_parts s a, add_parts (s -ℤ a) b, add_parts a t, add_parts s b, ap pos_part e, ap neg_part e))

-- values of at most M in size
pub sumℤ-size : (f : ℕ → ℤ) (n M : ℕ) → ((i : ℕ) → i < n → nat_abs (f i) ≤ M) → nat_abs (sumℤ (tabulate f n)) ≤ n * M
unfolding sumℤ tabulate
sumℤ-size f zero M h = omega arith
sumℤ-size f (suc n) M h = omega (arith, abs_add (f 0) (sumℤ (tabulate (λ i. f (suc i)) n)), h 0 (omega arith), sumℤ-size (λ i. f (suc i)) n M (λ i l. h (suc i) (omega (arith, l))))

-- a sum of natural numbers
pub sumℤ-pos : (f : ℕ → ℕ) (n : ℕ) → sumℤ (tabulate (λ i. pos (f i)) n) ≡ pos (sum (tabulate f n))
unfolding sum sumℤ tabulate
sumℤ-pos f zero = refl
sumℤ-pos f (suc n) = rw (sumℤ-pos (λ i. f (suc i)) n)
