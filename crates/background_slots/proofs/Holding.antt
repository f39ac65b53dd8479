-- What lent memory holds, read off what is held by value and off the labels. Assumes nothing.
use Prim.Native.Nat.{ℕ, ◌+◌, ◌*◌}
use mathlib.Core.Path.{◌≡◌, ap}
use mathlib.Core.List.{List, map}
use lib.ListN.{length, get_or}
use Rattle.lists.specs.Tabulate.{tabulate}
use Rattle.lists.proofs.Sums.{map-tabulate}
use Rattle.lists.proofs.Tabulate.{length-tabulate}
use Rattle.answers.specs.declared.Held.{Held}
use Rattle.background.specs.Background.{stills, numbers, position}
use Rattle.background.specs.Room.{held_of}
use Rattle.background.specs.Memory.{member_in, background_in}

-- the slot of number n among k stills
abbrev pub slot_of : ℕ → List ℕ → ℕ → ℕ
slot_of n labels k = position n (tabulate (λ i. get_or labels (2 * i) 0) k)

module _ (h : Held) (rasters labels : List ℕ) where
  pub stills_in : stills (background_in h rasters labels) ≡ h.count
  unfolding background_in
  stills_in = length-tabulate _ h.count

  pub held_in_lem : held_of (background_in h rasters labels) ≡ h
  unfolding background_in
  held_in_lem = ap (λ (k : ℕ). record { count = k; width = h.width; height = h.height; channels = h.channels }) (length-tabulate _ h.count)

  pub numbers_in : numbers (background_in h rasters labels) ≡ tabulate (λ i. get_or labels (2 * i) 0) h.count
  unfolding background_in member_in
  numbers_in = map-tabulate (λ m. m.number) _ h.count

  pub tolerances_in : map (λ m. m.tolerance) (background_in h rasters labels).members ≡ tabulate (λ i. get_or labels (2 * i + 1) 0) h.count
  unfolding background_in member_in
  tolerances_in = map-tabulate (λ m. m.tolerance) _ h.count
