-- The tests of a removal on what lent memory holds. Assumes nothing.
use Prim.Native.Nat.{ℕ}
use mathlib.Core.Path.{◌≡◌}
use mathlib.Core.List.{List, [], ◌∷◌}
use lib.Dec.{ltb}
use Rattle.refusals.specs.declared.Refusal.{Refusal}
use Rattle.refusals.specs.declared.Refusal.TheVariants as Refusal
use Rattle.answers.specs.declared.Held.{Held}
use Rattle.background.specs.Background.{present}
use Rattle.background.specs.Room.{held_room}
use Rattle.background.specs.Change.{remove_tests}
use Rattle.background.specs.Memory.{background_in}
use Rattle.background_slots.proofs.Holding.{slot_of, stills_in, held_in_lem, numbers_in}

module _ (n bytes words : ℕ) (h : Held) (rasters labels : List ℕ) where
  pub remove_tests_in : remove_tests n bytes words (background_in h rasters labels)
      ≡ (held_room h bytes words, Refusal.Room) ∷ (ltb (slot_of n labels h.count) h.count, Refusal.StillNumber) ∷ []
  unfolding remove_tests present
  remove_tests_in = rw (held_in_lem h rasters labels, numbers_in h rasters labels, stills_in h rasters labels)
