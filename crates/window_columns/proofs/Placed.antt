-- Rows and columns as the frame rule places them: a column has the samples that are supplied at its place, however they are ordered. Assumes nothing.
use Prim.Native.Nat.{ℕ, zero, suc, ◌+◌, ◌-◌, ◌*◌, ◌≤◌, ◌<◌}
use native.Mathlib.Numerals.{add-one}
use native.Mathlib.Omega.{arith}
use mathlib.Core.Path.{◌≡◌, refl, sym, ap}
use mathlib.Core.Bool.{Bool, cond}
use mathlib.Core.List.{List, [], ◌∷◌, ◌++◌, append-nil}
use mathlib.Core.Option.{Option, none, some}
use lib.ListN.{length, get_or, set, take, replicate, length-append, length-replicate, get_or-append}
use lib.Seq.{take-suc-set, get_or-append_seam}
use lib.Dec.{ltb, eqb}
use Rattle.lists.specs.Tabulate.{tabulate, raster}
use Rattle.lists.specs.Count.{count}
use Rattle.lists.proofs.Tabulate.{length-tabulate, tabulate_ext, tabulate_last, tabulate_const}
use Rattle.lists.proofs.Raster.{row_fits}
use Rattle.lists.proofs.Count.{count-length}
use Rattle.model.specs.Plane.{plane_of, pick}
use Rattle.model_laws.proofs.Border.{Inside, supply-inside}
use Rattle.stage_values.specs.Stands.{border_is}
use Rattle.frame.specs.declared.Frame.{Frame}
use Rattle.frame.specs.Framed.{Framed}
use Rattle.frame.specs.Padded.{column_at, row_at, padded}
use Rattle.histograms.specs.Histogram.{at_level, below_level}
use Rattle.histograms.specs.Column.{column_of, ColumnInside}
use Rattle.lists.proofs.CountParts.{count_append, count_alike, count_no_columns, count-column}
use Rattle.lists.proofs.Sums.{count-more, count_none}
use Rattle.window_columns.specs.Rows.{start_of, row_starts, Rows}
use Rattle.window_columns.specs.Columns.{column_pick, column_in, side_by_side}

-- ---- columns

pub length-inside : (plane rows : List ℕ) (c : ℕ) → length (column_of plane rows c) ≡ length rows
unfolding column_of
length-inside plane rows c = length-tabulate _ (length rows)

module _ (f : Frame) (plane rows : List ℕ) (down x : ℕ) where
  -- outside the frame
  pub column_outside : column_at f x ≡ none → column_in f plane rows down x ≡ replicate down f.value
  unfolding column_pick
  column_outside e = rw e refl

  -- inside
  pub column-inside : (c : ℕ) → column_at f x ≡ some c → column_in f plane rows down x ≡ column_of plane rows c ++ replicate (down - length rows) f.value
  unfolding column_pick
  column-inside c e = rw e refl

  pub length-column : length rows ≤ down → length (column_in f plane rows down x) ≡ down
  unfolding column_pick
  length-column h = go (column_at f x)
    where
      go : (o : Option ℕ) → length (column_pick f.value plane rows down o) ≡ down
      go none = length-replicate down f.value
      go (some c) = rw (length-append, length-replicate, length-inside plane rows c) (omega arith)

  -- no more of its samples are below a level than it has
  pub below-le : (g : ℕ) → length rows ≤ down → below_level g (column_in f plane rows down x) ≤ down
  below-le g h = omega (arith, count-length (λ y. ltb y g) (column_in f plane rows down x), length-column h)

-- how many are below a level in two parts
pub below_both : (g a b : ℕ) (xs ys : List ℕ) → a ≡ below_level g xs → b ≡ below_level g ys → a + b ≡ below_level g (xs ++ ys)
below_both g a b xs ys e q = omega (arith, count_append (λ x. ltb x g) xs ys)

pub few_both : (g a b n x : ℕ) (xs : List ℕ) → a ≡ below_level g xs → b ≡ below_level g (replicate n x) → a + b ≤ length xs + n
few_both g a b n x xs e q = omega (arith, count-length (λ z. ltb z g) xs, count-length (λ z. ltb z g) (replicate n x), length-replicate n x)

-- what is counted of a whole is counted of its front
pub front_counted : (g n : ℕ) (xs ys : List ℕ) → at_level g (xs ++ ys) ≤ n → at_level g xs ≤ n
front_counted g n xs ys h = omega (arith, count_append (λ x. eqb x g) xs ys)

-- all samples of a column inside are in the plane
pub rows_inside : (f : Frame) (plane rows : List ℕ) (down c : ℕ) → Rows f plane down rows → c < f.width → ColumnInside plane rows c
rows_inside f plane rows down c r h k l = omega (arith, r.whole k l)

-- ---- rows

-- one row inside more
column_append : (plane rows : List ℕ) (start c : ℕ) → column_of plane (rows ++ start ∷ []) c ≡ column_of plane rows c ++ (get_or plane (start + c) 0 ∷ [])
unfolding column_of
column_append plane rows start c =
    let long : length (rows ++ start ∷ []) ≡ length rows + 1 = rw length-append refl in
    rw
    (long, tabulate_last (λ k. get_or plane (get_or (rows ++ start ∷ []) k 0 + c) 0) (length rows) (get_or plane (start + c) 0) (rw (get_or-append_seam rows start [] 0) refl))
    (ap (λ (z : List ℕ). z ++ (get_or plane (start + c) 0 ∷ [])) (tabulate_ext _ _ (length rows) (λ k h. rw (get_or-append rows (start ∷ []) 0 k h) refl)))

-- what holds of each of two lists holds of both together
each_append : (P : ℕ → Type 0) (xs ys : List ℕ) → ((k : ℕ) → k < length xs → P (get_or xs k 0)) → ((k : ℕ) → k < length ys → P (get_or ys k 0)) → (k : ℕ) → k < length (xs ++ ys) → P (get_or (xs ++ ys) k 0)
each_append P [] ys a b k h = b k h
each_append P (x ∷ xs) ys a b zero h = a 0 (omega arith)
each_append P (x ∷ xs) ys a b (suc k) h = each_append P xs ys (λ i l. a (suc i) (omega arith)) b k (omega arith)

module _ (f : Frame) (y : ℕ) where
  length_starts : (j : ℕ) → length (row_starts f y j) ≤ j
  unfolding row_starts start_of
  length_starts zero = omega arith
  length_starts (suc j) = rw length-append (go (row_at f (y + j)) (length_starts j))
    where
      go : (o : Option ℕ) → length (row_starts f y j) ≤ j → length (row_starts f y j) + length (start_of f.width o) ≤ suc j
      go none h = omega arith
      go (some v) h = omega arith

  -- the next place is a row inside, or one outside
  pub start_more : (rows : List ℕ) (n j v : ℕ) → n < length rows → take n rows ≡ row_starts f y j → row_at f (y + j) ≡ some v → take (n + 1) (set rows n (v * f.width)) ≡ row_starts f y (j + 1)
  unfolding row_starts start_of
  start_more rows n j v h e q = rw (add-one, add-one, take-suc-set rows n (v * f.width) h, e, q) refl

  pub start_none : (rows : List ℕ) (n j : ℕ) → take n rows ≡ row_starts f y j → row_at f (y + j) ≡ none → take n rows ≡ row_starts f y (j + 1)
  unfolding row_starts start_of
  start_none rows n j e q = rw (add-one, e, q) (sym (append-nil _))

  pub starts_none : (rows : List ℕ) → take 0 rows ≡ row_starts f y 0
  unfolding row_starts
  starts_none rows = refl

  module _ (plane : List ℕ) (framed : Framed f plane) where
    starts_whole : (j k : ℕ) → k < length (row_starts f y j) → get_or (row_starts f y j) k 0 + f.width ≤ length plane
    unfolding row_starts start_of
    starts_whole zero = λ k h. absurd (omega arith)
    starts_whole (suc j) = each_append (λ (start : ℕ). start + f.width ≤ length plane) (row_starts f y j) _ (starts_whole j) (go (row_at f (y + j)) (supply-inside (border_is f.border) f.height _ framed.height.0))
      where
        go : (o : Option ℕ) → Inside f.height o → (k : ℕ) → k < length (start_of f.width o) → get_or (start_of f.width o) k 0 + f.width ≤ length plane
        go none i k l = absurd (omega arith)
        go (some v) i zero l = rw framed.whole (row_fits v f.height f.width i)
        go (some v) i (suc k) l = absurd (omega arith)

    -- all rows inside, of so many
    pub starts_rows : (j : ℕ) → Rows f plane j (row_starts f y j)
    starts_rows j = record { few = length_starts j; whole = starts_whole j }

-- ---- columns as they are supplied

module _ (f : Frame) (plane : List ℕ) (y : ℕ) (p : ℕ → Bool) where
  -- the bit of a sample
  bit : ℕ → ℕ
  bit x = cond (p x) 1 0

  -- the samples of a column inside in so many rows: those inside, and the border value for each row outside
  inside-count : ℕ → List ℕ → ℕ → ℕ
  inside-count c rows d = count p (column_of plane rows c) + (d - length rows) * bit f.value

  -- with the row at one place more
  inside-more : (c d : ℕ) (rows : List ℕ) (o : Option ℕ) → length rows ≤ d
      → inside-count c (rows ++ start_of f.width o) (d + 1) ≡ inside-count c rows d + bit (pick f.value (plane_of f.width plane) (some c) o)
  unfolding start_of pick plane_of inside-count bit
  inside-more c d rows none h =
      let e : d + 1 - length rows ≡ d - length rows + 1 = omega arith in
      rw (append-nil, e) (omega arith)
  inside-more c d rows (some v) h =
      let long : length (rows ++ v * f.width ∷ []) ≡ length rows + 1 = rw length-append refl in
      let e : d + 1 - (length rows + 1) ≡ d - length rows = omega arith in
      rw (long, e, column_append plane rows (v * f.width) c, count_append) (omega (arith, count_alike p 1 (get_or plane (v * f.width + c) 0)))

  inside-supplied : (c d : ℕ) → inside-count c (row_starts f y d) d ≡ count p (tabulate (λ j. pick f.value (plane_of f.width plane) (some c) (row_at f (y + j))) d)
  unfolding inside-count row_starts column_of bit
  inside-supplied c zero = omega (arith, count_none p (λ k. get_or plane (get_or [] k 0 + c) 0), count_none p (λ j. pick f.value (plane_of f.width plane) (some c) (row_at f (y + j))))
  inside-supplied c (suc d) =
      rw (← add-one d, count-more p (λ j. pick f.value (plane_of f.width plane) (some c) (row_at f (y + j))) d, ← inside-supplied c d)
      (inside-more c d (row_starts f y d) (row_at f (y + d)) (length_starts f y d))

  -- a column, wherever it is
  pub column-supplied : (d x : ℕ) → count p (column_in f plane (row_starts f y d) d x) ≡ count p (tabulate (λ j. padded f plane x (y + j)) d)
  unfolding column_pick padded pick inside-count bit
  column-supplied d x = go (column_at f x)
    where
      go : (o : Option ℕ) → count p (column_pick f.value plane (row_starts f y d) d o) ≡ count p (tabulate (λ j. pick f.value (plane_of f.width plane) o (row_at f (y + j))) d)
      go none = ap (count p) (sym (tabulate_const f.value d))
      go (some c) = rw (count_append, count_alike) (inside-supplied c d)

  -- columns side by side are a window of the frame
  pub columns_supplied : (d x n : ℕ) → count p (side_by_side (column_in f plane (row_starts f y d) d) x n) ≡ count p (raster (λ i j. padded f plane (x + i) (y + j)) n d)
  unfolding side_by_side count
  columns_supplied d x zero = sym (count_no_columns p (λ i j. padded f plane (x + i) (y + j)) d)
  columns_supplied d x (suc n) = rw (count_append, columns_supplied d x n, column-supplied d (x + n)) (sym (count-column p (λ i j. padded f plane (x + i) (y + j)) n d))
