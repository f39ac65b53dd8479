-- A buffer with some samples stored from a place on: what the next store makes of it, and what is as it was. Assumes nothing.
use Prim.Native.Nat.{ℕ, suc, ◌+◌, ◌-◌, ◌≤◌, ◌<◌}
use native.Mathlib.Nat.{add-zero}
use native.Mathlib.Omega.{arith}
use mathlib.Core.Path.{◌≡◌, sym, ap, ◌∙◌}
use mathlib.Core.List.{List, ◌++◌, append-nil, append_assoc}
use lib.ListN.{length, get_or, set, take, drop, length-append, take-append-drop, get_or-append}
use lib.Seq.{length-take-le, get_or-take, get_or-drop, get_or-append-add, drop-cons, set_at, append_snoc}
use Rattle.lists.specs.Tabulate.{tabulate}
use Rattle.lists.proofs.Tabulate.{length-tabulate, get_d_tabulate, tabulate_last, tabulate-get_or}

-- d with f 0, .., f (n - 1) from place `at` on
unfoldable pub stored : (ℕ → ℕ) → List ℕ → ℕ → ℕ → List ℕ
stored f d at n = take at d ++ tabulate f n ++ drop (at + n) d

length_front : (f : ℕ → ℕ) (d : List ℕ) (at n : ℕ) → at ≤ length d → length (take at d ++ tabulate f n) ≡ at + n
length_front f d at n h = rw (length-append, length-take-le, length-tabulate)

-- nothing stored yet
pub stored_none : (f : ℕ → ℕ) (d : List ℕ) (at : ℕ) → d ≡ stored f d at 0
unfolding stored tabulate
stored_none f d at = rw (append-nil, add-zero) (sym (take-append-drop at d))

-- the next store, of a value that is f's at n
pub stored_more : (f : ℕ → ℕ) (d l : List ℕ) (at n x : ℕ) → at + n < length d → l ≡ stored f d at n → x ≡ f n → set l (at + n) x ≡ stored f d at (n + 1)
unfolding stored
stored_more f d l at n x h e w =
    let next : at + (n + 1) ≡ suc (at + n) = omega arith in
    rw (e, tabulate_last f n x w, next, drop-cons d (at + n) 0 h, set_at (take at d ++ tabulate f n) _ _ x (at + n) (length_front f d at n (omega arith)), ← append_assoc, append_snoc)

-- what is stored stands in its place
pub at_stored : (f : ℕ → ℕ) (d l : List ℕ) (at n i : ℕ) → at ≤ length d → i < n → l ≡ stored f d at n → get_or l (at + i) 0 ≡ f i
unfolding stored
at_stored f d l at n i h k e =
    let inside : at + i < length (take at d ++ tabulate f n) = omega (arith, k, length_front f d at n h) in
    ap (λ (t : List ℕ). get_or t (at + i) 0) e ∙ get_or-append (take at d ++ tabulate f n) (drop (at + n) d) 0 (at + i) inside
    ∙ ap (λ (m : ℕ). get_or (take at d ++ tabulate f n) (m + i) 0) (sym (length-take-le at d h)) ∙ get_or-append-add (take at d) (tabulate f n) i 0 ∙ get_d_tabulate f n i 0 k

-- what stands before is as it was
pub before_stored : (f : ℕ → ℕ) (d l : List ℕ) (at n i : ℕ) → at ≤ length d → i < at → l ≡ stored f d at n → get_or l i 0 ≡ get_or d i 0
unfolding stored
before_stored f d l at n i h k e =
    let a : i < length (take at d) = omega (arith, length-take-le at d h) in
    let b : i < length (take at d ++ tabulate f n) = rw length-append (omega arith) in
    rw (e, get_or-append, get_or-append, get_or-take)

-- and so is what stands behind
pub behind_stored : (f : ℕ → ℕ) (d l : List ℕ) (at n i : ℕ) → at ≤ length d → at + n ≤ i → l ≡ stored f d at n → get_or l i 0 ≡ get_or d i 0
unfolding stored
behind_stored f d l at n i h k e =
    let place : i ≡ at + n + (i - (at + n)) = omega arith in
    let rest : at + n + (i - (at + n)) ≡ length (take at d ++ tabulate f n) + (i - (at + n)) = ap (λ (m : ℕ). m + (i - (at + n))) (sym (length_front f d at n h)) in
    ap (λ (m : ℕ). get_or l m 0) (place ∙ rest) ∙ ap (λ (t : List ℕ). get_or t (length (take at d ++ tabulate f n) + (i - (at + n))) 0) e
    ∙ get_or-append-add (take at d ++ tabulate f n) (drop (at + n) d) (i - (at + n)) 0 ∙ get_or-drop (at + n) d (i - (at + n)) 0 ∙ ap (λ (m : ℕ). get_or d m 0) (sym place)

-- the first n samples once more from place n on
pub copied : (d l : List ℕ) (n : ℕ) → n ≤ length d → l ≡ stored (λ i. get_or d i 0) d n n → l ≡ take n d ++ take n d ++ drop (n + n) d
unfolding stored
copied d l n h e = rw (tabulate-get_or d 0 n h) at e
