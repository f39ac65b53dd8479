-- `background_slots::held_room` meets its contract. Assumes nothing.
use native.Mathlib.Omega.{arith}
use mathlib.Core.Path.{sym, ◌∙◌}
use Rattle.background_slots.proofs.HeldRoom.{small}
use Rattle.background_slots.proofs.held_room.Goals as goal

pub room_for-requires : goal.room_for-requires
room_for-requires c =
    let s = small c.args.held (sym c.small_numbers.ensures ∙ c.if-small_numbers.true) in
    rw c.raster_size.ensures (omega (arith, s.count), omega (arith, s.all))
