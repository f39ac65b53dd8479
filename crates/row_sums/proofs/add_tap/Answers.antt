-- `row_sums::add_tap` meets its contract: what is stored so far, then what was there. Assumes nothing.
use Rattle.std.proofs.Common.{◌≡◌, get_or, refl, ◌∙◌, arith}
use Rattle.std.proofs.lemmas.List.{get_or_read_under}
use Rattle.std.proofs.Math.Facts.{to_z-of_z}
use Rattle.lists.proofs.Stored.{stored_none, stored_more, stored_next, stored_done}
use Rattle.row_sums.proofs.add_tap.Goals as goal

pub loop-u-init : goal.loop-u-init
loop-u-init g c =
    stored_none _ _ _

pub plus-requires : goal.plus-requires
plus-requires g c =
    let t = g.T.Tally in
    let L = c.loop-u in
    let a = c.args in
    let sum : c.index-sums-u.result ≡ get_or a.sums.now L.u t.none = get_or_read_under L.sums L.u _ _ t.none c.index-sums-u.is (omega arith) refl ∙ stored_next t.none L.invariant in
    let sample : c.index-row-u.result ≡ get_or a.row.now L.u t.blank = get_or_read_under a.row.now L.u _ _ t.blank c.index-row-u.is (omega arith) refl in
    (rw (to_z-of_z c.ranges.weight) c.requires.2, rw (sum, sample) (c.requires.3 L.u c.loop-u-test.true))

pub loop-u-preserved : goal.loop-u-preserved
loop-u-preserved g c =
    let t = g.T.Tally in
    let L = c.loop-u in
    let a = c.args in
    let sum : c.index-sums-u.result ≡ get_or a.sums.now L.u t.none = get_or_read_under L.sums L.u _ _ t.none c.index-sums-u.is (omega arith) refl ∙ stored_next t.none L.invariant in
    let sample : c.index-row-u.result ≡ get_or a.row.now L.u t.blank = get_or_read_under a.row.now L.u _ _ t.blank c.index-row-u.is (omega arith) refl in
    stored_more L.invariant c.requires.0 c.loop-u-test.true (c.plus.ensures ∙ rw (sum, sample) refl)

pub returns : goal.returns
returns g c =
    rw (to_z-of_z c.ranges.weight) at (stored_done c.loop-u.invariant c.loop-u-test.false)
