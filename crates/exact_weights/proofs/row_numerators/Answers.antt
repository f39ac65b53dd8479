-- `exact_weights::row_numerators` meets its contract: sums across of sums down are the numerators. Assumes nothing.
use Prim.Native.Nat.{ℕ, ◌+◌, ◌≤◌}
use native.Mathlib.Omega.{arith}
use mathlib.Core.Path.{◌≡◌, sym, ◌∙◌}
use mathlib.Core.List.{List, ◌++◌}
use lib.ListN.{get_or, drop, take, length-append}
use lib.Seq.{take_at}
use lib.IntN.{ℤ, pos, nat_abs}
use Rattle.lists.specs.Tabulate.{tabulate}
use Rattle.lists.proofs.Tabulate.{length-tabulate, get_d_tabulate, filled_at}
use Rattle.lists.proofs.Pairs.{pairs_at, pairs_tabulate}
use Rattle.frame.specs.Padded.{padded}
use Rattle.frame.proofs.Supplied.{padded-le}
use Rattle.tap_sums.proofs.SumLaws.{held_ext}
use Rattle.exact_weights.proofs.Sums.{down_small, numerator-is}
use Rattle.exact_weights.proofs.row_numerators.Goals as goal

-- the front of a buffer that a row of sums was stored in
front-is : (f : ℕ → ℤ) (n : ℕ) (d l : List ℤ) → l ≡ tabulate f n ++ drop n d → take n l ≡ tabulate f n
front-is f n d l e = rw e (take_at (tabulate f n) (drop n d) n (length-tabulate f n))

-- entries of which none is large
all_small : (f : ℕ → ℤ) (n M : ℕ) → ((x : ℕ) → nat_abs (f x) ≤ M) → (x : ℕ) → nat_abs (get_or (tabulate f n) x (pos 0)) ≤ M
all_small f n M h = pairs_at {R = λ (y x : ℤ). nat_abs y ≤ M} (pos 0) (pos 0) (omega arith) (pairs_tabulate f (λ i. pos 0) n h)

pub sums_down-requires : goal.sums_down-requires
sums_down-requires c =
    let p = c.requires in (p.0, p.1, p.2, p.3)

pub slice_bounds-sums_across-end : goal.slice_bounds-sums_across-end
slice_bounds-sums_across-end c =
    rw c.sums_down.ensures (simp (length-append, length-tabulate) (omega arith))

pub slice_bounds-sums_across-end-2 : goal.slice_bounds-sums_across-end-2
slice_bounds-sums_across-end-2 c =
    rw (front-is _ _ _ _ c.sums_down.ensures) (sym (length-tabulate _ _))

pub sums_across-requires : goal.sums_across-requires
sums_across-requires c =
    let a = c.args in
    let p = c.requires in
    let n = a.frame.width + 30 in
    let t = front-is _ _ _ _ c.sums_down.ensures in (
      p.0.width.1,
      rw (t, length-tabulate _ n) (omega arith),
      p.4,
      rw t (all_small _ n 134217728 (λ x. down_small a.down.whole (λ o. padded a.frame a.plane.now x (a.v + o))
          (λ o. padded-le a.frame a.plane.now x (a.v + o) (omega (arith, c.well_formed)) (λ i. omega (arith, (c.type_inv.plane i).fits))))),
    )

pub returns : goal.returns
returns c =
    let a = c.args in
    let w = a.frame.width in
    let t = front-is _ _ _ _ c.sums_down.ensures in
    λ u b. filled_at _ w _ _ (pos 0) u c.sums_across.ensures b
    ∙ held_ext a.across.taps.offsets a.across.taps.weights _ _ a.across.taps.len (λ i k. rw t (get_d_tabulate _ (w + 30) (u + get_or a.across.taps.offsets i 0) (pos 0) (omega (arith, b, a.across.whole.near i k))))
    ∙ numerator-is a.across.taps a.down.taps a.frame a.plane.now u a.v
