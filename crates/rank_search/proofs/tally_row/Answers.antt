-- `rank_search::tally_row` meets its contract: sample by sample. Assumes nothing.
use native.Mathlib.Nat.{le_antisymm}
use native.Mathlib.Omega.{arith}
use lib.ListN.{length-drop}
use Rattle.lists.proofs.Part.{tail_mid}
use Rattle.rank_search.proofs.Counts.{with_none, with_more, with_fits}
use Rattle.rank_search.proofs.tally_row.Goals as goal

pub loop-i-init : goal.loop-i-init
loop-i-init c =
    let a = c.args in
    with_none a.seen.now _ a.row.now a.w c.requires.2

pub tally-requires : goal.tally-requires
tally-requires c =
    let a = c.args in
    let p = c.requires in
    let L = c.loop-i in
    let t = c.loop-i-test.true in
    (rw (tail_mid L.i a.row.now, length-drop) (omega (arith, p.0, t)), p.1, omega (arith, p.2, L.auto.seen), p.3, with_fits a.seen.now _ a.row.now a.w L.i a.across L.seen L.invariant t p.4)

pub loop-i-preserved : goal.loop-i-preserved
loop-i-preserved c =
    let a = c.args in
    let L = c.loop-i in
    with_more a.seen.now _ a.row.now a.w L.i L.seen _ L.invariant c.tally.ensures

pub returns : goal.returns
returns c =
    rw (le_antisymm c.loop-i.auto.i-end c.loop-i-test.false) at c.loop-i.invariant
