-- What is left of an accepted recipe for a loop that goes through it: of S stages k are done, and `rest` is the bytes of the others. Assumes nothing.
use Prim.Native.Nat.{ℕ, ◌+◌, ◌-◌, ◌≤◌, ◌<◌}
use mathlib.Core.Path.{◌≡◌, refl}
use mathlib.Core.List.{List, [], ◌∷◌}
use lib.ListN.{length, drop}
use lib.Seq.{drop-drop}
use Rattle.std.specs.Prelude.{Ok}
use Rattle.refusals.specs.Refusal.{verdict}
use Rattle.recipe_bytes.specs.Bytes.{at}
use Rattle.recipe_stages.specs.StageBytes.{stage_tests, stage_length, stage_of}
use Rattle.recipe.specs.Recipe.{stages_of, recipe_tests}
use Rattle.recipe.proofs.Walk.{Walk, walk_start, walk_near, walk_tests, walk_more, walk_stages, walk_end}

-- the rest begins at a place up to which the recipe was gone through; while a stage is left, a number that the code can hold
pub record Rest (b : List ℕ) (S k : ℕ) (rest : List ℕ) : Type 0 where
  pub place : ℕ
  pub walk : Walk b S k place
  pub near : k < S → place ≤ 65537
  pub behind : rest ≡ drop place b

-- behind the first byte, which is there, all stages are left
pub rest_first : (b : List ℕ) → verdict (recipe_tests b) ≡ Ok tt → (1 ≤ length b) × Rest b (at b 0) 0 (drop 1 b)
rest_first b e = let w = walk_start b e in (w.0, record { place = 1; walk = w.1; near = walk_near b w.1; behind = refl })

module _ {b : List ℕ} {S k : ℕ} {rest : List ℕ} (r : Rest b S k rest) where
  module _ (h : k < S) where
    -- the next stage is one that passes
    pub next_passes : verdict (stage_tests rest) ≡ Ok tt
    next_passes = rw r.behind (walk_tests b r.walk h)

    -- behind it the others are left
    pub next_rest : (n : ℕ) → n ≡ stage_length rest → n ≤ length rest → n ≤ 8195 → Rest b S (k + 1) (drop n rest)
    next_rest n e l m =
        let w = walk_more b r.walk h n (rw r.behind at e) (rw r.behind at l) m in
        record { place = r.place + n; walk = w; near = walk_near b w; behind = rw (r.behind, drop-drop n r.place b) }

    pub next_stages : stages_of (S - k) rest ≡ stage_of rest ∷ stages_of (S - (k + 1)) (drop (stage_length rest) rest)
    next_stages = let n = stage_length (drop r.place b) in rw (r.behind, drop-drop n r.place b) (walk_stages b r.walk h n refl)

  -- all are done
  pub rest_done : S ≤ k → stages_of (S - k) rest ≡ []
  rest_done h = rw r.behind (walk_end b S k r.place h)
