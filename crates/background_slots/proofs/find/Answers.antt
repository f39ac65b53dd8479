-- `background_slots::find` meets its contract: no slot before i has the number. Assumes nothing.
use Prim.Native.Nat.{◌*◌, ◌<◌}
use native.Mathlib.Nat.{le_refl}
use native.Mathlib.Omega.{arith}
use lib.ListN.{get_or}
use borrow.Author.Tests.{lt-ltb, le-ltb}
use Rattle.background_slots.proofs.Search.{met_at, not_met}
use Rattle.background_slots.proofs.find.Goals as goal

pub returns-then-labels-i : goal.returns-then-labels-i
returns-then-labels-i c =
    let a = c.args in
    let L = c.loop-i in
    let b : L.i < a.count = omega arith in
    rw (met_at a.number (λ j. get_or a.labels.now (2 * j) 0) L.i a.count b L.invariant c.if-labels-i.true, lt-ltb _ _ b)

pub returns : goal.returns
returns c =
    let a = c.args in
    rw (not_met a.number (λ j. get_or a.labels.now (2 * j) 0) a.count (λ j b. c.loop-i.invariant j (omega arith)), le-ltb _ _ (le_refl a.count))
