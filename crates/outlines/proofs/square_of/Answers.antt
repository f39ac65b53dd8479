-- `outlines::square_of` meets its contract: three entries from the front of each row. Assumes nothing.
use Prim.Native.Nat.{ℕ, ◌≤◌}
use mathlib.Core.Path.{◌≡◌, refl, sym}
use mathlib.Core.List.{List, [], ◌∷◌}
use lib.ListN.{length, get_or, take}
use Rattle.lists.specs.Tabulate.{tabulate}
use Rattle.lists.proofs.Tabulate.{tabulate-get_or}
use Rattle.outlines.proofs.square_of.Goals as goal

three : (row : List ℕ) → 3 ≤ length row → take 3 row ≡ get_or row 0 0 ∷ get_or row 1 0 ∷ get_or row 2 0 ∷ []
unfolding tabulate
three row h = sym (tabulate-get_or row 0 3 h)

pub returns : goal.returns
returns c =
    let a = c.args in
    let p = c.requires in
    rw (three a.above.now p.0, three a.here.now p.1, three a.below.now p.2) refl
