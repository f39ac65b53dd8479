-- Laws of `tabulate`, and how a loop that stores f i at i, from the front, builds it.
-- Assumes nothing.
use mathlib.Core.Path.{◌≡◌, refl, sym, ap, ◌∙◌}
use mathlib.Core.Logic.{⊎_elim}
use mathlib.Core.List.Memᴰ
use mathlib.Core.List.{List, [], ◌∷◌, ◌++◌, Memᴰ}
use Prim.Native.Nat.{ℕ, zero, suc, ◌+◌, ◌-◌, ◌≤◌, ◌<◌}
use native.Mathlib.Nat.{not-suc-le-zero, le_of_suc-le-suc, zero-lt-suc, zero-add, add-zero, suc-add}
use native.Mathlib.Numerals.{add-one}
use native.Mathlib.Omega.{arith}
use lib.ListN.{length, get_or, set, take, drop, length-append, length-drop, replicate, get_or-append}
use lib.Seq.{get_or-take, get_or-drop, get_or-append-add, take_at, drop_at}
use Rattle.lists.specs.Tabulate.{tabulate}
use Rattle.lists.proofs.Part.{tail_mid, drop_past, front_more}

module _ {A : Type 0} where
  pub length-tabulate : (f : ℕ → A) (n : ℕ) → length (tabulate f n) ≡ n
  unfolding tabulate
  length-tabulate f zero = refl
  length-tabulate f (suc n) = ap suc (length-tabulate (λ i. f (suc i)) n)

  pub get_d_tabulate : (f : ℕ → A) (n i : ℕ) (d : A) → i < n → get_or (tabulate f n) i d ≡ f i
  unfolding tabulate
  get_d_tabulate f zero i d l = absurd (not-suc-le-zero l)
  get_d_tabulate f (suc n) zero d l = refl
  get_d_tabulate f (suc n) (suc i) d l = get_d_tabulate (λ i. f (suc i)) n i d (le_of_suc-le-suc l)

  pub tabulate_ext : (f g : ℕ → A) (n : ℕ) → ((i : ℕ) → i < n → f i ≡ g i) → tabulate f n ≡ tabulate g n
  unfolding tabulate
  tabulate_ext f g zero h = refl
  tabulate_ext f g (suc n) h = rw (h 0 (zero-lt-suc n)) (ap (λ (l : List A). g 0 ∷ l) (tabulate_ext (λ i. f (suc i)) (λ i. g (suc i)) n (λ i l. h (suc i) (omega arith))))

  pub tabulate-add : (f : ℕ → A) (m n : ℕ) → tabulate f (m + n) ≡ tabulate f m ++ tabulate (λ i. f (m + i)) n
  unfolding tabulate
  tabulate-add f zero n = rw zero-add (tabulate_ext f (λ i. f (0 + i)) n (λ i l. rw zero-add))
  tabulate-add f (suc m) n = rw suc-add (ap (λ (l : List A). f 0 ∷ l) (tabulate-add (λ i. f (suc i)) m n ∙ ap (λ (l : List A). tabulate (λ i. f (suc i)) m ++ l) (tabulate_ext (λ i. f (suc (m + i))) (λ i. f (suc m + i)) n (λ i l. rw suc-add))))

  fill_suc : (f : ℕ → A) (n : ℕ) (d : List A) → n < length d → set (tabulate f n ++ drop n d) n (f n) ≡ tabulate f (suc n) ++ drop (suc n) d
  unfolding tabulate
  fill_suc f n [] l = absurd (not-suc-le-zero l)
  fill_suc f zero (x ∷ d) l = refl
  fill_suc f (suc n) (x ∷ d) l = ap (λ (t : List A). f 0 ∷ t) (fill_suc (λ i. f (suc i)) n d (le_of_suc-le-suc l))

  -- nothing stored yet
  pub fill_none : (f : ℕ → A) (d : List A) → d ≡ tabulate f 0 ++ drop 0 d
  unfolding tabulate
  fill_none f d = refl

  -- the next store, of a value that is f's at n
  pub fill_more : (f : ℕ → A) (n : ℕ) (d l : List A) (v : A) → n < length d → l ≡ tabulate f n ++ drop n d → v ≡ f n → set l n v ≡ tabulate f (n + 1) ++ drop (n + 1) d
  fill_more f n d l v h e w = rw (e, w, add-one) (fill_suc f n d h)

  -- a front that is filled as far as it is wanted
  pub filled_front : (f : ℕ → A) (n i : ℕ) (d l : List A) → i ≤ n → n ≤ i → l ≡ tabulate f i ++ drop i d → take n l ≡ tabulate f n
  filled_front f n i d l a b e = let same : i ≡ n = omega arith in ap (λ (k : List A). take n k) (rw same at e) ∙ take_at (tabulate f n) (drop n d) n (length-tabulate f n)

  pub length_filled : (f : ℕ → A) (n : ℕ) (d : List A) → n ≤ length d → length (tabulate f n ++ drop n d) ≡ length d
  length_filled f n d h = simp (length-append, length-tabulate, length-drop) (omega arith)

  pub tabulate-get_or : (s : List A) (d : A) (n : ℕ) → n ≤ length s → tabulate (λ i. get_or s i d) n ≡ take n s
  unfolding tabulate
  tabulate-get_or s d zero h = refl
  tabulate-get_or [] d (suc n) h = absurd (not-suc-le-zero h)
  tabulate-get_or (x ∷ s) d (suc n) h = ap (λ (t : List A). x ∷ t) (tabulate-get_or s d n (le_of_suc-le-suc h))

  -- a part that starts past what was stored is as it was
  pub past_filled : (f : ℕ → A) (k n : ℕ) (d l : List A) → l ≡ tabulate f k ++ drop k d → k ≤ n → take (length l - n) (drop n l) ≡ drop n d
  past_filled f k n d l e h = tail_mid n l ∙ ap (λ (m : List A). drop n m) e ∙ drop_past (tabulate f k) d k n (length-tabulate f k) h

  -- the last entry apart, given by a value
  pub tabulate_last : (f : ℕ → A) (n : ℕ) (x : A) → x ≡ f n → tabulate f (n + 1) ≡ tabulate f n ++ (x ∷ [])
  unfolding tabulate
  tabulate_last f n x e = tabulate-add f n 1 ∙ ap (λ (z : A). tabulate f n ++ (z ∷ [])) (ap f (add-zero n) ∙ sym e)

  -- the entries of a list whose first n are known
  pub entry_known : (f : ℕ → A) (xs : List A) (n i : ℕ) (d : A) → take n xs ≡ tabulate f n → i < n → get_or xs i d ≡ f i
  entry_known f xs n i d e h = sym (get_or-take n xs i d h) ∙ ap (λ (l : List A). get_or l i d) e ∙ get_d_tabulate f n i d h

  -- a stored front: its entries, the next one, which is as it was, and what lies behind, which is too
  pub filled_at : (f : ℕ → A) (n : ℕ) (d l : List A) (a : A) (u : ℕ) → l ≡ tabulate f n ++ drop n d → u < n → get_or l u a ≡ f u
  filled_at f n d l a u e b = rw e (get_or-append (tabulate f n) (drop n d) a u (rw (length-tabulate f n) b) ∙ get_d_tabulate f n u a b)

  pub filled_next : (f : ℕ → A) (n : ℕ) (d l : List A) (a : A) → l ≡ tabulate f n ++ drop n d → get_or l n a ≡ get_or d n a
  filled_next f n d l a e =
      rw e (ap (λ (k : ℕ). get_or (tabulate f n ++ drop n d) k a) (sym (add-zero n) ∙ ap (λ (k : ℕ). k + 0) (sym (length-tabulate f n)))
      ∙ get_or-append-add (tabulate f n) (drop n d) 0 a ∙ get_or-drop n d 0 a ∙ ap (λ (k : ℕ). get_or d k a) (add-zero n))

  pub filled_behind : (f : ℕ → A) (n : ℕ) (d l : List A) → l ≡ tabulate f n ++ drop n d → drop n l ≡ drop n d
  filled_behind f n d l e = rw e (drop_at (tabulate f n) (drop n d) n (length-tabulate f n))

  -- a front that was stored is stored again, each entry from the one before it
  pub refill : (f g h : ℕ → A) (n : ℕ) (d l m : List A) (a : A) → l ≡ tabulate f n ++ drop n d → m ≡ tabulate h n ++ drop n l
      → ((u : ℕ) → u < n → get_or l u a ≡ f u → h u ≡ g u) → m ≡ tabulate g n ++ drop n d
  refill f g h n d l m a el em k =
      em ∙ rw (filled_behind f n d l el) (ap (λ (t : List A). t ++ drop n d) (tabulate_ext h g n (λ u b. k u b (filled_at f n d l a u el b))))

  -- n entries more, stored by a function that was lent the part after the first a
  pub fill_part : (f : ℕ → A) (a n : ℕ) (d l part : List A) → l ≡ tabulate f a ++ drop a d → part ≡ tabulate (λ i. f (a + i)) n ++ drop n (take (length l - a) (drop a l))
      → take a l ++ (part ++ drop (length l - a) (drop a l)) ≡ tabulate f (a + n) ++ drop (a + n) d
  fill_part f a n d l part el ep = rw (tabulate-add f a n) (front_more (tabulate f a) _ d l part a n (length-tabulate f a) el ep)

  pub tabulate_const : (c : A) (n : ℕ) → tabulate (λ i. c) n ≡ replicate n c
  unfolding tabulate
  tabulate_const c zero = refl
  tabulate_const c (suc n) = ap (λ (t : List A). c ∷ t) (tabulate_const c n)

  pub mem_tabulate : (f : ℕ → A) (n : ℕ) (s : A) → Memᴰ s (tabulate f n) → (i : ℕ) × (i < n) × (s ≡ f i)
  unfolding tabulate
  mem_tabulate f zero s m = absurd (Memᴰ.not-nil m)
  mem_tabulate f (suc n) s m = ⊎_elim (λ e. (0, omega arith, e)) (λ k. go (mem_tabulate (λ i. f (suc i)) n s k)) (Memᴰ.cases_cons m)
    where
      go : (i : ℕ) × (i < n) × (s ≡ f (suc i)) → (i : ℕ) × (i < suc n) × (s ≡ f i)
      go (i, h, e) = (suc i, omega arith, e)
