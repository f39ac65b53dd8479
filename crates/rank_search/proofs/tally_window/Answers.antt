-- `rank_search::tally_window` meets its contract: row by row. Assumes nothing.
use Prim.Native.Nat.{◌+◌, ◌*◌, ◌-◌, ◌≤◌}
use native.Mathlib.Omega.{arith}
use lib.ListN.{length, length-drop}
use Rattle.lists.proofs.Part.{tail_mid}
use Rattle.lists.proofs.Raster.{row_fits}
use Rattle.rank_search.proofs.Counts.{over_none, over_more, over_fits}
use Rattle.rank_search.proofs.tally_window.Goals as goal

pub loop-j-init : goal.loop-j-init
loop-j-init c =
    let a = c.args in
    over_none a.rows.now a.seen.now _ a.w a.r c.requires.5 c.requires.7

pub tally_row-requires : goal.tally_row-requires
tally_row-requires c =
    let a = c.args in
    let p = c.requires in
    let L = c.loop-j in
    let t = c.loop-j-test.true in
    let few : L.j ≤ 6 = omega (arith, t, p.2) in
    let room : 15 - a.r + L.j * (a.w + 30) + (a.w + (2 * a.r + 1)) ≤ length a.rows.now = omega (arith, row_fits L.j a.n (a.w + 30) t, p.1, p.3) in
    (rw (tail_mid (15 - a.r + L.j * (a.w + 30)) a.rows.now, length-drop) (omega (arith, room)), p.4, omega (arith, p.5, L.auto.seen), p.6, over_fits a.rows.now a.seen.now _ a.w a.r L.j L.seen p.1 few L.invariant)

pub loop-j-preserved : goal.loop-j-preserved
loop-j-preserved c =
    let a = c.args in
    let L = c.loop-j in
    over_more a.rows.now a.seen.now _ a.w a.r L.j L.seen _ L.invariant c.tally_row.ensures
