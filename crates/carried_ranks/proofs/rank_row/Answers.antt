-- `carried_ranks::rank_row` meets its contract: the rows placed, the first window counted, and then sample by sample. Assumes nothing.
use Prim.Native.Nat.{◌+◌, ◌-◌}
use native.Mathlib.Omega.{arith}
use mathlib.Core.Path.{◌≡◌, sym}
use Rattle.histograms.proofs.Below.{total-none}
use Rattle.lists.proofs.Stored.{stored_none, stored_more}
use Rattle.carried_ranks.proofs.RankWindow.{rows-placed, level-there, rank-found}
use Rattle.carried_ranks.proofs.rank_row.Goals as goal

pub count_window-requires : goal.count_window-requires
count_window-requires c =
    let a = c.args in
    let p = c.requires in
    let near = a.rank.window.near in
    (p.0, rows-placed a.frame _ _ _ _ _ p.0 c.place_rows-inside.ensures.1, omega (arith, near), omega (arith, near), omega arith, p.2)

pub loop-u-init : goal.loop-u-init
loop-u-init c =
    let left : 15 - c.args.rank.window.r + 0 ≡ 15 - c.args.rank.window.r = omega arith in
    (stored_none _ _ _, rw left (rw c.place_rows-inside.ensures.1 at c.count_window.ensures), sym (total-none _))

pub reach-here-requires : goal.reach-here-requires
reach-here-requires c =
    let a = c.args in
    let L = c.loop-u in
    level-there a.frame a.plane.now a.rank L.u a.v L.counts L.invariant.1 L.at (omega (arith, c.well_formed)) (λ i. omega (arith, c.type_inv.plane i)) L.invariant.2

pub next_window-at-requires : goal.next_window-at-requires
next_window-at-requires c =
    let a = c.args in
    let p = c.requires in
    let L = c.loop-u in
    let near = a.rank.window.near in
    let back : 16 - a.rank.window.r + L.u - 1 ≡ 15 - a.rank.window.r + L.u = omega (arith, near) in
    let rows = c.place_rows-inside.ensures.1 in
    (p.0, rows-placed a.frame _ _ _ _ _ p.0 rows, omega arith, omega (arith, near), omega (arith, near), omega (arith, near), omega (arith, p.0.width, c.loop-u-test.true), rw (rows, back) L.invariant.1, c.reach-here.ensures.summed)

pub loop-u-preserved : goal.loop-u-preserved
loop-u-preserved c =
    let a = c.args in
    let L = c.loop-u in
    let on : 15 - a.rank.window.r + (L.u + 1) ≡ 16 - a.rank.window.r + L.u = omega (arith, a.rank.window.near) in (
      stored_more L.invariant.0 c.requires.3 c.loop-u-test.true (rank-found a.frame a.plane.now a.rank L.u a.v L.counts L.invariant.1 c.reach-here.result (omega arith) c.reach-here.ensures),
      rw on (rw c.place_rows-inside.ensures.1 at c.next_window-at.ensures.0),
      c.next_window-at.ensures.1,
    )
