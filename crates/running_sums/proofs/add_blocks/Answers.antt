-- `running_sums::add_blocks` meets its contract: four entries a turn, in a place apart from the row above. Assumes nothing.
use Rattle.std.proofs.Common.{◌≡◌, ◌+◌, ◌*◌, get_or, drop, ◌∙◌, add-zero, add_assoc, le_antisymm, zero-add, arith, length-drop, get_or-drop}
use native.Mathlib.Nat.{add-mod-mod}
use Rattle.lists.proofs.Part.{tail_mid}
use Rattle.lists.proofs.StoredAt.{stored, stored_none}
use Rattle.running_sums.specs.Fours.{four_sum, lane}
use Rattle.running_sums.proofs.Blocks.{stored_twice, above_kept, running_four}
use Rattle.running_sums.proofs.add_blocks.Goals as goal

pub first_lanes-t-requires : goal.first_lanes-t-requires
first_lanes-t-requires c =
    omega (arith, c.requires.3)

pub loop-k-init : goal.loop-k-init
loop-k-init c =
    let none : 4 * 0 ≡ 0 = omega arith in
    (λ i h. rw (none, zero-add) (c.first_lanes-t.ensures i h), rw none (stored_none _ _ _))

pub next_lanes-t-requires : goal.next_lanes-t-requires
next_lanes-t-requires c =
    let a = c.args in
    rw (tail_mid (4 * c.loop-k.k) a.fours.now, length-drop) (omega (arith, c.loop-k-test.true, c.requires.4))

pub loop-k-preserved : goal.loop-k-preserved
unfolding stored
loop-k-preserved c =
    let a = c.args in
    let p = c.requires in
    let L = c.loop-k in
    let t = c.loop-k-test.true in
    let x = 4 * L.k in
    let d = a.sums.now in
    let next : x + 4 ≡ 4 * (L.k + 1) = omega arith in (
      λ i h. let place : 4 * (L.k + 1) + i ≡ x + i + 4 = omega arith in
          let more : get_or (drop x a.fours.now) i 0 ≡ four_sum a.row.now (x + i) = get_or-drop x a.fours.now i 0 ∙ p.5 (x + i) (omega (arith, t, h)) in
          rw place (rw (tail_mid x a.fours.now, more) at (c.next_lanes-t.ensures i h) ∙ running_four a.row.now (x + i) (lane L.t i) (omega (arith, t, h, p.3)) (L.invariant.0 i h)),
      rw next at (stored_twice _ _ d L.sums _ a.to x 4 (omega (arith, p.1)) L.invariant.1 c.put_lanes.ensures (λ i h.
          let place : a.from + x + i ≡ a.from + (x + i) = add_assoc a.from x i in
          rw (place, above_kept _ d L.sums a.from a.to (4 * a.n) x (x + i) (omega (arith, p.1)) p.2 (omega arith) (omega (arith, t, h)) L.invariant.1, L.invariant.0 i h, add-mod-mod))),
    )

pub returns : goal.returns
unfolding stored lane
returns c =
    let L = c.loop-k in
    let k = le_antisymm L.auto.k-end c.loop-k-test.false in
    (rw (k, add-zero) at (L.invariant.0 0 (omega arith)), rw k at L.invariant.1)
