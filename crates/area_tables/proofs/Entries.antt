-- The entries of a table, row by row. Assumes nothing.
use Prim.Native.Nat.{ℕ, ◌+◌, ◌-◌, ◌*◌, ◌%◌, ◌^◌, ◌≤◌}
use native.Mathlib.Nat.{mod-add-mod}
use native.Mathlib.Omega.{arith}
use mathlib.Core.Path.{◌≡◌, refl, ap, ◌∙◌}
use mathlib.Core.List.{List, ◌++◌, append_assoc}
use lib.ListN.{take, drop}
use lib.Seq.{take-take, take_at, drop_at}
use Rattle.integers.specs.Sum.{sum}
use Rattle.lists.specs.Tabulate.{tabulate, raster}
use Rattle.lists.proofs.Tabulate.{length-tabulate, tabulate-add}
use Rattle.frame.specs.declared.Frame.{Frame}
use Rattle.frame.specs.Padded.{padded}
use Rattle.area_tables.specs.Table.{extended, entry}
use Rattle.area_tables.proofs.Sums.{total-row}

-- entries from a on, of a front that is tabulated
tabulate-part : (f : ℕ → ℕ) (a x n : ℕ) (rest : List ℕ) → a + x ≤ n → take x (drop a (tabulate f n ++ rest)) ≡ tabulate (λ i. f (a + i)) x
tabulate-part f a x n rest h =
    let split : n ≡ a + (x + (n - a - x)) = omega arith in
    rw (split, tabulate-add f a, append_assoc, drop_at (tabulate f a) _ a (length-tabulate f a), tabulate-add (λ i. f (a + i)) x, append_assoc)
    (take_at (tabulate (λ i. f (a + i)) x) _ x (length-tabulate _ x))

module _ (f : Frame) (r s : ℕ) (samples : List ℕ) where
  pub entry-none : (x : ℕ) → entry f r s samples x 0 ≡ 0
  unfolding entry raster sum
  entry-none x = refl

  -- the entry below, from the padded row between them
  pub entry_more : (row rest : List ℕ) (a n x y : ℕ) → r ≤ 15 → x ≤ n → x ≤ f.width + 2 * r → a ≡ entry f r s samples x y
      → row ≡ tabulate (λ i. padded f samples i (15 - s + y)) (f.width + 30) ++ rest
      → (a + sum (take x (take n (drop (15 - r) row)))) % 2 ^ 32 ≡ entry f r s samples x (y + 1)
  unfolding entry extended
  entry_more row rest a n x y hr hn hx e er =
      let front = ap (λ (l : List ℕ). take x (drop (15 - r) l)) er ∙ tabulate-part (λ i. padded f samples i (15 - s + y)) (15 - r) x (f.width + 30) rest (omega (arith, hr, hx)) in
      rw (e, take-take x n (drop (15 - r) row) hn, front, mod-add-mod, total-row (λ i j. padded f samples (15 - r + i) (15 - s + j)) x y)
