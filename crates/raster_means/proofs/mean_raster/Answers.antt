-- `raster_means::mean_raster` meets its contract: block by block. Assumes nothing.
use Prim.Native.Nat.{ℕ, ◌+◌, ◌-◌, ◌≤◌, min}
use native.Mathlib.Omega.{arith}
use mathlib.Core.Path.{◌≡◌, ap, ◌∙◌}
use mathlib.Core.List.{List, ◌++◌}
use lib.ListN.{length, take, drop, length-drop}
use Rattle.lists.specs.Tabulate.{tabulate}
use Rattle.lists.proofs.Part.{tail_mid}
use Rattle.lists.proofs.Stored.{Stored, stored_none, stored_done}
use Rattle.lists.proofs.Tabulate.{fill_part, length_filled}
use Rattle.raster_means.proofs.mean_raster.Goals as goal

-- one block more, in a part that was lent from `at` on
block_more : {f : ℕ → ℕ} {size at : ℕ} (n : ℕ) {end : ℕ} {d l part : List ℕ} → Stored f size d l at → size ≤ length d → at + n ≡ end → end ≤ size
    → part ≡ tabulate (λ i. f (at + i)) n ++ drop n (take (length l - at) (drop at l)) → Stored f size d (take at l ++ (part ++ drop (length l - at) (drop at l))) end
block_more {f} {size} {at} n {end} {d} {l} {part} s h e inside b =
    let front = rw e at (fill_part f at n d l part s.front b) in
    record { so_far = inside; front = front; long = ap length front ∙ length_filled _ _ d (omega (arith, inside, h)) }

pub loop-at-init : goal.loop-at-init
loop-at-init c =
    stored_none _ _ _

pub block-requires : goal.block-requires
block-requires c =
    let a = c.args in
    let p = c.requires in
    let L = c.loop-at in
    let n : c.min-n.result ≡ min 4096 (a.size - L.at) = c.min-n.ensures in (
      p.0,
      p.1,
      omega (arith, n),
      omega (arith, n),
      p.2,
      rw (tail_mid L.at L.out, length-drop) (omega (arith, n, p.3, L.invariant.long)),
      c.reciprocal-by.ensures,
    )

pub loop-at-preserved : goal.loop-at-preserved
loop-at-preserved c =
    let L = c.loop-at in
    let n : c.min-n.result ≡ min 4096 (c.args.size - L.at) = c.min-n.ensures in
    let e : L.at + c.min-n.result ≡ L.at + 4096 = omega (arith, n) in
    block_more _ L.invariant c.requires.3 e (omega arith) c.block.ensures

pub returns : goal.returns
returns c =
    stored_done c.loop-at.invariant (omega arith)

pub returns-2 : goal.returns-2
returns-2 c =
    let L = c.loop-at in
    let n : c.min-n.result ≡ min 4096 (c.args.size - L.at) = c.min-n.ensures in
    let e : L.at + c.min-n.result ≡ c.args.size = omega (arith, n) in
    (block_more _ L.invariant c.requires.3 e (omega arith) c.block.ensures).front
