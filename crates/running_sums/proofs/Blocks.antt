-- Rows of sums that are stored part by part, and the running sums that go with them. Assumes nothing.
use Rattle.std.proofs.Common.{◌≡◌, ℕ, zero, suc, ◌+◌, ◌%◌, ◌^◌, ◌<◌, ◌≤◌, ◌⊎◌, List, ◌++◌, length, get_or, take, drop, set, sym, ◌∙◌, ⊎_elim, append_assoc, add-zero, add_assoc, mod-eq_of_lt, arith, length-append, length-take-le, take_at}
use native.Mathlib.Nat.{add-mod-mod, mod-add-mod}
use Rattle.integers.specs.Sum.{sum}
use Rattle.lists.specs.Tabulate.{tabulate}
use Rattle.lists.proofs.Part.{drop_past}
use Rattle.lists.proofs.Tabulate.{length-tabulate, tabulate-add, tabulate_ext}
use Rattle.lists.proofs.StoredAt.{stored, stored_none, stored_more, before_stored, behind_stored}
use Rattle.running_sums.specs.declared.Lanes.{Lanes}
use Rattle.running_sums.specs.Fours.{four_sum, lane}
use Rattle.running_sums.proofs.Sums.{sum-take-suc, sum-take-more, sum-take-add, sum-take-four}

-- what is stored first, and then behind it, is stored at once
pub stored_twice : (f g : ℕ → ℕ) (d l r : List ℕ) (at n k : ℕ) → at ≤ length d → l ≡ stored f d at n → r ≡ stored g l (at + n) k → ((i : ℕ) → i < k → g i ≡ f (n + i)) → r ≡ stored f d at (n + k)
unfolding stored
stored_twice f g d l r at n k h el er e =
    let front : length (take at d ++ tabulate f n) ≡ at + n = rw (length-append, length-take-le at d h, length-tabulate) in
    rw (er, el, take_at (take at d ++ tabulate f n) (drop (at + n) d) (at + n) front, drop_past (take at d ++ tabulate f n) d (at + n) (at + n + k) front (omega arith), tabulate_ext g (λ i. f (n + i)) k e, tabulate-add f n k, ← append_assoc, add_assoc)

-- the rest of the row above is as it was, while the row is stored elsewhere
pub above_kept : (g : ℕ → ℕ) (d l : List ℕ) (from to width x y : ℕ) → to ≤ length d → (to ≤ from) ⊎ (from + width ≤ to) → x ≤ y → y < width → l ≡ stored g d to x → get_or l (from + y) 0 ≡ get_or d (from + y) 0
above_kept g d l from to width x y h apart a b e =
    ⊎_elim (λ k. behind_stored g d l to x (from + y) h (omega (arith, k, a)) e) (λ k. before_stored g d l to x (from + y) h (omega (arith, k, b)) e) apart

-- ---- one by one, from a sum `start` on

module _ (row : List ℕ) (start x t : ℕ) (e : t ≡ (start + sum (take x row)) % 2 ^ 32) where
  -- the running sum modulo 2^32, one sample on
  pub running_more : x < length row → (t + get_or row x 0) % 2 ^ 32 ≡ (start + sum (take (x + 1) row)) % 2 ^ 32
  running_more h = rw (e, mod-add-mod, sum-take-more x row h, add_assoc)

  -- and added to the entry above
  pub running_added : (a : ℕ) → (a + t) % 2 ^ 32 ≡ (a + (start + sum (take x row))) % 2 ^ 32
  running_added a = rw (e, add-mod-mod)

-- ---- four by four

-- the running sums at the first four places
pub lanes_first : (row : List ℕ) (t : Lanes) → 3 ≤ length row → ((i : ℕ) → get_or row i 0 < 256) → t.a ≡ 0 → t.b ≡ get_or row 0 0 → t.c ≡ t.b + get_or row 1 0 → t.d ≡ t.c + get_or row 2 0
    → (i : ℕ) → i < 4 → lane t i ≡ sum (take i row) % 2 ^ 32
unfolding lane sum
lanes_first row t l b ea eb ec ed zero h = ea
lanes_first row t l b ea eb ec ed (suc zero) h =
    let one : t.b ≡ sum (take (suc zero) row) = omega (arith, eb, sum-take-suc zero row (omega (arith, l))) in
    one ∙ sym (mod-eq_of_lt (omega (arith, one, eb, b 0)))
lanes_first row t l b ea eb ec ed (suc (suc zero)) h =
    let two : t.c ≡ sum (take (suc (suc zero)) row) = omega (arith, eb, ec, sum-take-suc zero row (omega (arith, l)), sum-take-suc (suc zero) row (omega (arith, l))) in
    two ∙ sym (mod-eq_of_lt (omega (arith, two, eb, ec, b 0, b 1)))
lanes_first row t l b ea eb ec ed (suc (suc (suc zero))) h =
    let three : t.d ≡ sum (take (suc (suc (suc zero))) row) = omega (arith, eb, ec, ed, sum-take-suc zero row (omega (arith, l)), sum-take-suc (suc zero) row (omega (arith, l)), sum-take-suc (suc (suc zero)) row (omega (arith, l))) in
    three ∙ sym (mod-eq_of_lt (omega (arith, three, eb, ec, ed, b 0, b 1, b 2)))
lanes_first row t l b ea eb ec ed (suc (suc (suc (suc i)))) h = absurd (omega (arith, h))

-- four numbers added to four
pub lanes_added : (r t : Lanes) (more : List ℕ) → r.a ≡ (t.a + get_or more 0 0) % 2 ^ 32 → r.b ≡ (t.b + get_or more 1 0) % 2 ^ 32 → r.c ≡ (t.c + get_or more 2 0) % 2 ^ 32 → r.d ≡ (t.d + get_or more 3 0) % 2 ^ 32
    → (i : ℕ) → i < 4 → lane r i ≡ (lane t i + get_or more i 0) % 2 ^ 32
unfolding lane
lanes_added r t more ea eb ec ed zero h = ea
lanes_added r t more ea eb ec ed (suc zero) h = eb
lanes_added r t more ea eb ec ed (suc (suc zero)) h = ec
lanes_added r t more ea eb ec ed (suc (suc (suc zero))) h = ed
lanes_added r t more ea eb ec ed (suc (suc (suc (suc i)))) h = absurd (omega (arith, h))

-- four entries stored one behind another
pub four_stored : (f : ℕ → ℕ) (d : List ℕ) (to a b c e : ℕ) → to + 4 ≤ length d → a ≡ f 0 → b ≡ f 1 → c ≡ f 2 → e ≡ f 3 → set (set (set (set d to a) (to + 1) b) (to + 2) c) (to + 3) e ≡ stored f d to 4
four_stored f d to a b c e h ea eb ec ee =
    let one = rw add-zero at (stored_more f d d to 0 a (omega (arith, h)) (stored_none f d to) ea) in
    let two = stored_more f d (set d to a) to 1 b (omega (arith, h)) one eb in
    let three = stored_more f d (set (set d to a) (to + 1) b) to 2 c (omega (arith, h)) two ec in
    stored_more f d (set (set (set d to a) (to + 1) b) (to + 2) c) to 3 e (omega (arith, h)) three ee

-- a running sum, four places on
pub running_four : (row : List ℕ) (n t : ℕ) → n + 4 ≤ length row → t ≡ sum (take n row) % 2 ^ 32 → (t + four_sum row n) % 2 ^ 32 ≡ sum (take (n + 4) row) % 2 ^ 32
running_four row n t h e = rw (e, mod-add-mod, sum-take-four n row h)

-- a sum modulo 2^32 in front of another
pub sum_behind : (a n x t : ℕ) (row : List ℕ) → t ≡ sum (take n row) % 2 ^ 32 → (a + (t + sum (take x (drop n row)))) % 2 ^ 32 ≡ (a + sum (take (n + x) row)) % 2 ^ 32
sum_behind a n x t row e = rw (e, sum-take-add n x row, ← add-mod-mod a (sum (take n row) % 2 ^ 32 + sum (take x (drop n row))) (2 ^ 32), mod-add-mod, add-mod-mod)
