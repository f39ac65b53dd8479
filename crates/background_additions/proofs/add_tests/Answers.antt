-- `background_additions::add_tests` meets its contract, test by test. Assumes nothing.
use Prim.Native.Nat.{◌+◌, ◌≤◌}
use native.Mathlib.Nat.{mul-le-mul}
use native.Mathlib.Omega.{arith}
use mathlib.Core.Path.{refl, sym, ap, ◌∙◌}
use borrow.Author.Tests.{lt-ltb, le-ltb}
use Rattle.std.specs.Option.{is_some}
use Rattle.refusals.specs.Refusal.{verdict}
use Rattle.background_slots.proofs.HeldRoom.{labels_lent}
use Rattle.background_slots.proofs.Search.{is_there}
use Rattle.background_additions.proofs.Tests.{verdict_in}
use Rattle.background_additions.proofs.add_tests.Goals as goal

pub find-requires : goal.find-requires
find-requires c =
    labels_lent _ _ _ (sym c.held_room.ensures ∙ c.if-not-held_room.false)

pub room_for-requires : goal.room_for-requires
room_for-requires c =
    let few : c.args.held.count + 1 ≤ 65536 = omega (arith, c.if-held-ge-FULL.false) in
    (omega (arith, few), omega (arith, mul-le-mul few c.requires.1))

pub returns-then-not-held_room : goal.returns-then-not-held_room
unfolding verdict
returns-then-not-held_room c =
    let room = sym c.held_room.ensures ∙ c.if-not-held_room.true in
    sym (verdict_in _ _ _ _ _ _ _ _ _ room refl refl refl refl)

pub returns-then-is_some : goal.returns-then-is_some
unfolding verdict
returns-then-is_some c =
    let room = sym c.held_room.ensures ∙ c.if-not-held_room.false in
    let there = sym (c.is_some.ensures ∙ ap is_some c.find.ensures ∙ is_there _ _) ∙ c.if-is_some.true in
    sym (verdict_in _ _ _ _ _ _ _ _ _ room there refl refl refl)

pub returns-then-not-suits_held : goal.returns-then-not-suits_held
unfolding verdict
returns-then-not-suits_held c =
    let room = sym c.held_room.ensures ∙ c.if-not-held_room.false in
    let there = sym (c.is_some.ensures ∙ ap is_some c.find.ensures ∙ is_there _ _) ∙ c.if-is_some.false in
    let fits = sym c.suits_held.ensures ∙ c.if-not-suits_held.true in
    sym (verdict_in _ _ _ _ _ _ _ _ _ room there fits refl refl)

pub returns-then-held-ge-FULL : goal.returns-then-held-ge-FULL
unfolding verdict
returns-then-held-ge-FULL c =
    let room = sym c.held_room.ensures ∙ c.if-not-held_room.false in
    let there = sym (c.is_some.ensures ∙ ap is_some c.find.ensures ∙ is_there _ _) ∙ c.if-is_some.false in
    let fits = sym c.suits_held.ensures ∙ c.if-not-suits_held.false in
    let few = le-ltb c.args.held.count 1000 (omega (arith, c.if-held-ge-FULL.true)) in
    sym (verdict_in _ _ _ _ _ _ _ _ _ room there fits few refl)

pub returns-then-not-room_for : goal.returns-then-not-room_for
unfolding verdict
returns-then-not-room_for c =
    let room = sym c.held_room.ensures ∙ c.if-not-held_room.false in
    let there = sym (c.is_some.ensures ∙ ap is_some c.find.ensures ∙ is_there _ _) ∙ c.if-is_some.false in
    let fits = sym c.suits_held.ensures ∙ c.if-not-suits_held.false in
    let more = sym c.room_for.ensures ∙ c.if-not-room_for.true in
    let few = lt-ltb c.args.held.count 1000 (omega (arith, c.if-held-ge-FULL.false)) in
    sym (verdict_in _ _ _ _ _ _ _ _ _ room there fits few more)

pub returns : goal.returns
unfolding verdict
returns c =
    let room = sym c.held_room.ensures ∙ c.if-not-held_room.false in
    let there = sym (c.is_some.ensures ∙ ap is_some c.find.ensures ∙ is_there _ _) ∙ c.if-is_some.false in
    let fits = sym c.suits_held.ensures ∙ c.if-not-suits_held.false in
    let more = sym c.room_for.ensures ∙ c.if-not-room_for.false in
    let few = lt-ltb c.args.held.count 1000 (omega (arith, c.if-held-ge-FULL.false)) in
    sym (verdict_in _ _ _ _ _ _ _ _ _ room there fits few more)
