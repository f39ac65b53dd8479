-- `background_removals::remove_tests` meets its contract, test by test. Assumes nothing.
use Prim.Native.Nat.{ℕ}
use mathlib.Core.Path.{◌≡◌, refl, sym, ap, ◌∙◌}
use mathlib.Core.Bool.{Bool, true, false, cond}
use lib.ListN.{length}
use lib.Dec.{ltb}
use Rattle.std.specs.Prelude.{Option, None, Some, Ok, Err}
use Rattle.std.specs.Option.{ok_or}
use Rattle.refusals.specs.declared.Refusal.{Refusal}
use Rattle.refusals.specs.declared.Refusal.TheVariants.{StillNumber}
use Rattle.background_slots.proofs.Holding.{numbers_in}
use Rattle.background_slots.proofs.HeldRoom.{labels_lent}
use Rattle.background_slots.specs.Slot.{place_among}
use Rattle.background_removals.proofs.Tests.{remove_tests_in}
use Rattle.background_removals.proofs.remove_tests.Goals as goal

-- a place among k, or a refusal
place_or : (k i : ℕ) (r : Refusal) → ok_or (place_among k i) r ≡ cond (ltb i k) (Ok i) (Err r)
place_or k i r = go (ltb i k)
  where
    go : (t : Bool) → ok_or (cond t (Some i) None) r ≡ cond t (Ok i) (Err r)
    go true = refl
    go false = refl

pub returns-then-not-held_room : goal.returns-then-not-held_room
returns-then-not-held_room c =
    let a = c.args in
    let room = sym c.held_room.ensures ∙ c.if-not-held_room.true in
    rw (remove_tests_in a.number (length a.rasters.now) (length a.labels.now) a.held a.rasters.now a.labels.now, room)

pub find-requires : goal.find-requires
find-requires c =
    labels_lent _ _ _ (sym c.held_room.ensures ∙ c.if-not-held_room.false)

pub returns : goal.returns
returns c =
    let a = c.args in
    let room = sym c.held_room.ensures ∙ c.if-not-held_room.false in
    rw (remove_tests_in a.number (length a.rasters.now) (length a.labels.now) a.held a.rasters.now a.labels.now, room, numbers_in a.held a.rasters.now a.labels.now)
    (c.ok_or.ensures.value ∙ ap (λ (o : Option ℕ). ok_or o StillNumber) c.find.ensures ∙ place_or _ _ StillNumber)
