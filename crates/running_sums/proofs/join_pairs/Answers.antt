-- `running_sums::join_pairs` meets its contract: what is stored so far, then what was there: both that are read. Assumes nothing.
use Rattle.std.proofs.Common.{◌+◌, le_refl, arith}
use Rattle.lists.proofs.Stored.{stored_none, stored_more, stored_behind, stored_done}
use Rattle.running_sums.proofs.join_pairs.Goals as goal

pub loop-x-init : goal.loop-x-init
loop-x-init c =
    stored_none _ _ _

pub overflow_add-dst-in-loop-x : goal.overflow_add-dst-in-loop-x
overflow_add-dst-in-loop-x c =
    let L = c.loop-x in
    let p = c.requires in
    let t = c.loop-x-test.true in
    record { fits = omega (arith, stored_behind 0 L.invariant L.x (le_refl _), stored_behind 0 L.invariant (L.x + 2) (omega arith), p.1 L.x (omega (arith, t)), p.1 (L.x + 2) (omega (arith, t))) }

pub loop-x-preserved : goal.loop-x-preserved
loop-x-preserved c =
    let L = c.loop-x in
    stored_more L.invariant (omega (arith, c.requires.0)) c.loop-x-test.true (omega (arith, stored_behind 0 L.invariant L.x (le_refl _), stored_behind 0 L.invariant (L.x + 2) (omega arith)))

pub returns : goal.returns
returns c =
    stored_done c.loop-x.invariant c.loop-x-test.false
