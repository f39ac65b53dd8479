-- What must be lent, and what a refusal leaves.
use Rattle.std.specs.Prelude.{ℕ, ◌+◌, ◌*◌, ◌≤◌, ◌≡◌, Bool, true, false, List, [], ◌∷◌, leb, Ok}
use Rattle.refusals.specs.Refusal.{Test, verdict}
use Rattle.refusals.specs.declared.Refusal.TheVariants as Refusal
use Rattle.recipe.specs.Recipe.{recipe_tests, recipe_stages}
use Rattle.model.specs.Stage.{Stage}
use Rattle.table_sizes.specs.Needs.{sum_need}
use Rattle.room.specs.declared.Lent.{Lent}

-- these lengths of the lent buffers
abbrev pub lent : ℕ → ℕ → ℕ → ℕ → Lent
lent works rows sums out = record { works = works; rows = rows; sums = sums; out = out }

-- what must be lent to filter a frame of W by H by these stages into `size` bytes ('Who causes which refusal'): 2·W·H bytes of work, W·(H+30) row values, the sums
-- of the box stage that needs most (2026-09), and the bytes of the output
abbrev pub needs : ℕ → ℕ → List Stage → ℕ → Lent
needs W H ts size = lent (2 * (W * H)) (W * (H + 30)) (sum_need W ts) size

-- each lent buffer is at least as long as is needed: what is shorter is refused with 20
abbrev pub enough_tests : Lent → Lent → List Test
enough_tests need l =
    (leb need.works l.works, Refusal.Room)
    ∷ (leb need.rows l.rows, Refusal.Room)
    ∷ (leb need.sums l.sums, Refusal.Room)
    ∷ (leb need.out l.out, Refusal.Room)
    ∷ []

-- the tests of what is lent: all causes of refusal 20, by the one definition of needs
unfoldable pub room_tests : ℕ → ℕ → List Stage → ℕ → Lent → List Test
room_tests W H ts size l = enough_tests (needs W H ts size) l

-- a work buffer before and after a call: as it was where the call refused (true), and with any content where it filtered
abbrev pub Kept : {A : Type 0} → Bool → List A → List A → Type 0
Kept true before after = after ≡ before
Kept false before after = Unit {0}

-- a recipe that is accepted, sides within their limits, and room for its stages, whatever the output
pub record Sufficient (W H : ℕ) (recipe : List ℕ) (works rows sums : ℕ) : Type 0 where
  pub width : (1 ≤ W) × (W ≤ 8192)
  pub height : (1 ≤ H) × (H ≤ 8192)
  pub accepted : verdict (recipe_tests recipe) ≡ Ok tt
  pub enough-work : (needs W H (recipe_stages recipe) 0).works ≤ works
  pub enough-rows : (needs W H (recipe_stages recipe) 0).rows ≤ rows
  pub enough-sums : (needs W H (recipe_stages recipe) 0).sums ≤ sums
