-- Works to which left and right are alike give the same where the neighbourhood is turned round, offset i for offset -i (request 2026-06). Assumes nothing.
use Prim.Native.Nat.{ℕ, ◌+◌, ◌*◌, ◌-◌, ◌/◌, ◌≤◌, ◌<◌, min, max}
use native.Mathlib.Nat.{le_antisymm, lt_of_not-le}
use native.Mathlib.Omega.{arith}
use native.Mathlib.Decide.{dec_le}
use mathlib.Core.Path.{◌≡◌, refl, sym, ap, subst, ◌∙◌, fun_ext}
use mathlib.Core.Logic.{⊎_elim}
use mathlib.Core.List.Memᴰ
use mathlib.Core.List.{List, [], ◌∷◌, ◌++◌, map, foldr, Memᴰ}
use lib.Dec.{T}
use lib.ListN.{get_or}
use lib.IntN.{ℤ, pos, neg_ℤ, nat_abs, ◌+ℤ◌, ◌-ℤ◌, ◌*ℤ◌, +ℤ_idl, +ℤ_idr, +ℤ_assoc, +ℤ_comm}
use lib.Signed.{◌<ℤ◌, <ℤ_irrefl}
use borrow.Author.Tests.{le-leb, lt-leb}
use Rattle.integers.specs.Divide.{floor_div, clamp}
use Rattle.integers.specs.Sum.{sum}
use Rattle.integers.proofs.Parts.{pos_part, neg_part, parts_ext, add_parts, sub_parts, mul-parts, neg-parts, abs_diff}
use Rattle.integers.proofs.Order.{lt_of_parts, parts_of_lt, <ℤ-trans}
use Rattle.lists.specs.Tabulate.{tabulate, raster}
use Rattle.lists.proofs.Members.{of_mem_map}
use Rattle.lists.proofs.Folds.{fold_flipped}
use Rattle.lists.proofs.Raster.{raster_ext}
use Rattle.model.specs.Plane.{Neighbourhood}
use Rattle.model.specs.Kernel.{Tap, tap, Kernel, weighted_sum, Rising}
use Rattle.model.specs.Apportion.{share, apportion}
use Rattle.model.specs.Symmetry.{symmetric}
use Rattle.model.specs.Weighted.{row_value, weighted_result}
use Rattle.model.specs.Window.{area, window}
use Rattle.model.specs.Box.{box_result}
use Rattle.model.specs.Rank.{insert, sort, smallest, rank_result}
use Rattle.model.specs.Outline.{outline_kernels, response, largest, edge_strength, outline_result}
use Rattle.model.specs.Stage.{Work, weighted, box, rank, outline, result}
use Rattle.model.specs.Flip.{LeftRightAlike}
use Rattle.model_laws.proofs.Symmetry.{turned, turned_turned, Symmetric, symmetric_of}

-- a neighbourhood turned round
abbrev pub from_the_right : Neighbourhood → Neighbourhood
from_the_right f i j = f (neg_ℤ i) j

-- ---- rising taps are told by which they are

below_all : {x y : Tap} {xs ys : List Tap} → Rising (x ∷ xs) → Rising (y ∷ ys) → Memᴰ x (y ∷ ys) → Memᴰ y (x ∷ xs) → x ≡ y
below_all r q m n =
    ⊎_elim (λ e. e) (λ k. ⊎_elim (λ e. sym e) (λ l. absurd (<ℤ_irrefl (<ℤ-trans (q.0 _ k) (r.0 _ l)))) (Memᴰ.cases_cons n)) (Memᴰ.cases_cons m)

-- what is in one tail is in the other
in_tail : {x y t : Tap} {xs ys : List Tap} → Rising (x ∷ xs) → x ≡ y → Memᴰ t xs → Memᴰ t (y ∷ ys) → Memᴰ t ys
in_tail {x} {y} {t} r e m n = ⊎_elim (λ d. absurd (<ℤ_irrefl (subst (λ s. x.offset <ℤ s.offset) (d ∙ sym e) (r.0 t m)))) (λ k. k) (Memᴰ.cases_cons n)

rising_ext : (xs ys : List Tap) → Rising xs → Rising ys → ((t : Tap) → Memᴰ t xs → Memᴰ t ys) → ((t : Tap) → Memᴰ t ys → Memᴰ t xs) → xs ≡ ys
rising_ext [] [] r q f g = refl
rising_ext [] (y ∷ ys) r q f g = absurd (Memᴰ.not-nil (g y (Memᴰ.head refl)))
rising_ext (x ∷ xs) [] r q f g = absurd (Memᴰ.not-nil (f x (Memᴰ.head refl)))
rising_ext (x ∷ xs) (y ∷ ys) r q f g =
    let e : x ≡ y = below_all r q (f x (Memᴰ.head refl)) (g y (Memᴰ.head refl)) in
    rw (e, rising_ext xs ys r.1 q.1 (λ t m. in_tail r e m (f t (Memᴰ.tail m))) (λ t m. in_tail q (sym e) m (g t (Memᴰ.tail m))))

-- ---- the taps from the other end, each turned to the other side

backward : List Tap → List Tap
backward [] = []
backward (t ∷ ts) = backward ts ++ (turned t ∷ [])

of_backward : (ts : List Tap) (s : Tap) → Memᴰ s (backward ts) → Memᴰ (turned s) ts
unfolding backward
of_backward [] s m = absurd (Memᴰ.not-nil m)
of_backward (t ∷ ts) s m =
    ⊎_elim (λ k. Memᴰ.tail (of_backward ts s k)) (λ k. Memᴰ.head (ap turned (Memᴰ.eq_of_singleton k) ∙ turned_turned t)) (Memᴰ.append_cases (backward ts) m)

to_backward : (ts : List Tap) (s : Tap) → Memᴰ s ts → Memᴰ (turned s) (backward ts)
unfolding backward
to_backward [] s x' = elim x' [ ]
to_backward (t ∷ ts) s (Memᴰ.head e) = Memᴰ.append_right (backward ts) (Memᴰ.head (ap turned e))
to_backward (t ∷ ts) s (Memᴰ.tail m) = Memᴰ.append_left (turned t ∷ []) (to_backward ts s m)

rising_last : (ss : List Tap) (t : Tap) → Rising ss → ((s : Tap) → Memᴰ s ss → s.offset <ℤ t.offset) → Rising (ss ++ (t ∷ []))
rising_last [] t r h = ((λ s m. absurd (Memᴰ.not-nil m)), tt)
rising_last (x ∷ xs) t r h = (
  (λ s m. ⊎_elim (λ k. r.0 s k) (λ k. subst (λ y. x.offset <ℤ y.offset) (sym (Memᴰ.eq_of_singleton k)) (h x (Memᴰ.head refl))) (Memᴰ.append_cases xs m)),
  rising_last xs t r.1 (λ s m. h s (Memᴰ.tail m)),
)

other_side : (x y : ℤ) → x <ℤ neg_ℤ y → y <ℤ neg_ℤ x
other_side x y l = lt_of_parts y (neg_ℤ x) (omega (arith, parts_of_lt l, neg-parts x, neg-parts y))

backward_rising : (ts : List Tap) → Rising ts → Rising (backward ts)
unfolding backward turned tap
backward_rising [] r = tt
backward_rising (t ∷ ts) r = rising_last (backward ts) (turned t) (backward_rising ts r.1) (λ s m. other_side t.offset s.offset (r.0 (turned s) (of_backward ts s m)))

palindrome : (ts : List Tap) → Rising ts → Symmetric ts → backward ts ≡ ts
palindrome ts r s =
    rising_ext (backward ts) ts (backward_rising ts r) r
    (λ t m. subst (λ x. Memᴰ x ts) (turned_turned t) (s (turned t) (of_backward ts t m)))
    (λ t m. subst (λ x. Memᴰ x (backward ts)) (turned_turned t) (to_backward ts (turned t) (s t m)))

-- ---- weighted sums

sum_append : (ss ts : List Tap) (f : ℤ → ℤ) → weighted_sum (ss ++ ts) f ≡ weighted_sum ss f +ℤ weighted_sum ts f
unfolding weighted_sum
sum_append [] ts f = sym (+ℤ_idl (weighted_sum ts f))
sum_append (s ∷ ss) ts f = rw (sum_append ss ts f) (sym (+ℤ_assoc (s.weight *ℤ f s.offset) (weighted_sum ss f) (weighted_sum ts f)))

sum_backward : (ts : List Tap) (f : ℤ → ℤ) → weighted_sum (backward ts) f ≡ weighted_sum ts (λ i. f (neg_ℤ i))
unfolding weighted_sum backward turned tap
sum_backward [] f = refl
sum_backward (t ∷ ts) f =
    sum_append (backward ts) (turned t ∷ []) f
    ∙ rw (sum_backward ts f, +ℤ_idr (t.weight *ℤ f (neg_ℤ t.offset))) (+ℤ_comm (weighted_sum ts (λ i. f (neg_ℤ i))) (t.weight *ℤ f (neg_ℤ t.offset)))

rising_shares : (K : Kernel) (ts : List Tap) → Rising ts → Rising (map (share K) ts)
unfolding share tap
rising_shares K [] r = tt
rising_shares K (t ∷ ts) r = ((λ s m. let p = of_mem_map (share K) ts s m in rw p.2 (r.0 p.0 p.1)), rising_shares K ts r.1)

module _ (across : Kernel) (rising : Rising across.taps) (even : T (symmetric (apportion across))) where
  sum_alike : (f : ℤ → ℤ) → weighted_sum (apportion across) (λ i. f (neg_ℤ i)) ≡ weighted_sum (apportion across) f
  unfolding apportion
  sum_alike f =
      let A = map (share across) across.taps in
      sym (sum_backward A f) ∙ ap (λ ts. weighted_sum ts f) (palindrome A (rising_shares across across.taps rising) (symmetric_of A even))

  weighted_alike : (down : Kernel) (f : Neighbourhood) → weighted_result across down (from_the_right f) ≡ weighted_result across down f
  unfolding weighted_result row_value
  weighted_alike down f =
      ap (λ h. clamp 255 (floor_div (weighted_sum (apportion down) h +ℤ pos 2097152) 4194304))
      (fun_ext (λ j. ap (λ z. floor_div (z +ℤ pos 512) 1024) (sum_alike (λ i. pos (f i j)))))

-- ---- windows

module _ {B : Type 0} (step : ℕ → B → B) (swap : (x y : ℕ) (z : B) → step x (step y z) ≡ step y (step x z)) (z : B) (r s : ℕ) (f : Neighbourhood) where
  fold_window : foldr step z (window r s (from_the_right f)) ≡ foldr step z (window r s f)
  unfolding window
  fold_window =
      ap (foldr step z)
      (raster_ext _ (λ i j. f (pos (2 * r + 1 - 1 - i) -ℤ pos r) (pos j -ℤ pos s)) (2 * r + 1) (2 * s + 1)
      (λ i j h k. ap (λ o. f o (pos j -ℤ pos s)) (parts_ext _ _ (omega (arith, h, neg-parts (pos i -ℤ pos r), sub_parts (pos i) (pos r), sub_parts (pos (2 * r + 1 - 1 - i)) (pos r))))))
      ∙ fold_flipped step swap (λ i j. f (pos i -ℤ pos r) (pos j -ℤ pos s)) (2 * r + 1) (2 * s + 1) z

sum_is_fold : (xs : List ℕ) → sum xs ≡ foldr (λ (x y : ℕ). x + y) 0 xs
unfolding sum
sum_is_fold [] = refl
sum_is_fold (x ∷ xs) = ap (λ (n : ℕ). x + n) (sum_is_fold xs)

sort_is_fold : (xs : List ℕ) → sort xs ≡ foldr insert [] xs
unfolding sort
sort_is_fold [] = refl
sort_is_fold (x ∷ xs) = ap (insert x) (sort_is_fold xs)

-- ---- inserting two numbers, either first

insert-low : {x z : ℕ} (zs : List ℕ) → x ≤ z → insert x (z ∷ zs) ≡ x ∷ z ∷ zs
unfolding insert
insert-low {x} {z} zs h = rw (le-leb x z h)

insert_high : {x z : ℕ} (zs : List ℕ) → z < x → insert x (z ∷ zs) ≡ z ∷ insert x zs
unfolding insert
insert_high {x} {z} zs h = rw (lt-leb x z h)

insert_swap_lt : (x y : ℕ) → x < y → (zs : List ℕ) → insert x (insert y zs) ≡ insert y (insert x zs)
unfolding insert
insert_swap_lt x y h [] = insert-low [] (omega arith) ∙ sym (insert_high [] h)
insert_swap_lt x y h (z ∷ zs) = go (dec_le y z) (dec_le x z) (insert_swap_lt x y h zs)
  where
    go : Dec (y ≤ z) → Dec (x ≤ z) → insert x (insert y zs) ≡ insert y (insert x zs) → insert x (insert y (z ∷ zs)) ≡ insert y (insert x (z ∷ zs))
    go (yes a) b i =
        ap (insert x) (insert-low zs a)
        ∙ insert-low (z ∷ zs) (omega arith)
        ∙ ap (λ t. x ∷ t) (sym (insert-low zs a))
        ∙ sym (insert_high (z ∷ zs) h)
        ∙ ap (insert y) (sym (insert-low zs (omega (arith, h, a))))
    go (no a) (yes b) i =
        ap (insert x) (insert_high zs (lt_of_not-le a))
        ∙ insert-low (insert y zs) b
        ∙ ap (λ t. x ∷ t) (sym (insert_high zs (lt_of_not-le a)))
        ∙ sym (insert_high (z ∷ zs) h)
        ∙ ap (insert y) (sym (insert-low zs b))
    go (no a) (no b) i =
        ap (insert x) (insert_high zs (lt_of_not-le a))
        ∙ insert_high (insert y zs) (lt_of_not-le b)
        ∙ ap (λ t. z ∷ t) i
        ∙ sym (insert_high (insert x zs) (lt_of_not-le a))
        ∙ ap (insert y) (sym (insert_high zs (lt_of_not-le b)))

insert_swap : (x y : ℕ) (zs : List ℕ) → insert x (insert y zs) ≡ insert y (insert x zs)
insert_swap x y zs = go (dec_le y x) (dec_le x y)
  where
    go : Dec (y ≤ x) → Dec (x ≤ y) → insert x (insert y zs) ≡ insert y (insert x zs)
    go (yes a) (yes b) = rw (le_antisymm a b) refl
    go (yes a) (no b) = sym (insert_swap_lt y x (lt_of_not-le b) zs)
    go (no a) b = insert_swap_lt x y (lt_of_not-le a) zs

sum-window : (r s : ℕ) (f : Neighbourhood) → sum (window r s (from_the_right f)) ≡ sum (window r s f)
sum-window r s f = sum_is_fold _ ∙ fold_window (λ (x y : ℕ). x + y) (λ x y z. omega arith) 0 r s f ∙ sym (sum_is_fold _)

sort-window : (r s : ℕ) (f : Neighbourhood) → sort (window r s (from_the_right f)) ≡ sort (window r s f)
sort-window r s f = sort_is_fold _ ∙ fold_window insert insert_swap [] r s f ∙ sym (sort_is_fold _)

-- ---- outlines: turned round, the first kernel is the first below 0, the second stays, and the third and the fourth are each other below 0

-- what a kernel adds and what it takes away
ups : List ℤ → List ℕ → ℕ
ups [] xs = 0
ups (a ∷ k) [] = 0
ups (a ∷ k) (x ∷ xs) = pos_part a * x + ups k xs

downs : List ℤ → List ℕ → ℕ
downs [] xs = 0
downs (a ∷ k) [] = 0
downs (a ∷ k) (x ∷ xs) = neg_part a * x + downs k xs

response-parts : (k : List ℤ) (xs : List ℕ) → pos_part (response k xs) + downs k xs ≡ ups k xs + neg_part (response k xs)
unfolding response ups downs
response-parts [] xs = refl
response-parts (a ∷ k) [] = refl
response-parts (a ∷ k) (x ∷ xs) = omega (arith, (add_parts (a *ℤ pos x) (response k xs)).sum, mul-parts a (pos x), response-parts k xs)

strength : (k : List ℤ) (xs : List ℕ) → nat_abs (response k xs) ≡ (ups k xs - downs k xs) + (downs k xs - ups k xs)
strength k xs =
    let u = ups k xs in
    let d = downs k xs in
    let e : response k xs ≡ pos u -ℤ pos d = parts_ext _ _ (omega (arith, response-parts k xs, (sub_parts (pos u) (pos d)).sum)) in
    ap nat_abs e ∙ abs_diff u d

last_two : (k l m n : ℕ) → max k (max l (max m (max n 0))) ≡ max k (max l (max n (max m 0)))
last_two k l m n = ap (λ (x : ℕ). max k (max l x)) (omega arith)

-- nine samples
module _ (a b c d e f g h i : ℕ) where
  rows : List ℕ
  rows = a ∷ b ∷ c ∷ d ∷ e ∷ f ∷ g ∷ h ∷ i ∷ []

  turned_rows : List ℕ
  turned_rows = c ∷ b ∷ a ∷ f ∷ e ∷ d ∷ i ∷ h ∷ g ∷ []

  strength_alike : (k l : List ℤ) → (ups k turned_rows - downs k turned_rows) + (downs k turned_rows - ups k turned_rows) ≡ (ups l rows - downs l rows) + (downs l rows - ups l rows)
      → nat_abs (response k turned_rows) ≡ nat_abs (response l rows)
  strength_alike k l same = strength k turned_rows ∙ same ∙ sym (strength l rows)

  nine_alike : edge_strength turned_rows ≡ edge_strength rows
  unfolding edge_strength largest outline_kernels ups downs rows turned_rows
  nine_alike =
      let k : ℕ → List ℤ = λ n. get_or outline_kernels n [] in
      rw (strength_alike (k 0) (k 0) (omega arith), strength_alike (k 1) (k 1) (omega arith), strength_alike (k 2) (k 3) (omega arith), strength_alike (k 3) (k 2) (omega arith)) (last_two _ _ _ _)

outline_alike : (f : Neighbourhood) → edge_strength (window 1 1 (from_the_right f)) ≡ edge_strength (window 1 1 f)
unfolding window raster tabulate rows turned_rows
outline_alike f = nine_alike _ _ _ _ _ _ _ _ _

-- ---- all works

pub left_right_alike : (w : Work) → LeftRightAlike w → (f : Neighbourhood) → result w (from_the_right f) ≡ result w f
unfolding result box_result rank_result smallest outline_result
left_right_alike (weighted across down) (rising, even) f = weighted_alike across rising even down f
left_right_alike (box r s) h f = ap (λ (n : ℕ). (2 * n + area r s) / (2 * area r s)) (sum-window r s f)
left_right_alike (rank r s p) h f = ap (λ xs. get_or xs (p - 1) 0) (sort-window r s f)
left_right_alike outline h f = ap (λ (n : ℕ). min n 255) (outline_alike f)
