-- The answer of `filter_file` told in one step, with what is lent tested where the still is read: it is the same. Assumes nothing.
use Prim.Native.Nat.{ℕ}
use mathlib.Core.Path.{◌≡◌, refl, ap, ◌∙◌}
use mathlib.Core.List.{List, [], ◌∷◌, ◌++◌}
use Rattle.std.specs.Prelude.{Result, Ok, Err}
use Rattle.refusals.specs.declared.Refusal.{Refusal}
use Rattle.refusals.specs.Refusal.{Test, tested}
use Rattle.refusals.proofs.Passed.{tested_through}
use Rattle.model.specs.Stage.{Stage}
use Rattle.model.specs.Tolerance.{tolerance}
use Rattle.answers.specs.declared.Picture.{Picture}
use Rattle.answers.specs.declared.Filtered.{Filtered}
use Rattle.still_reader.specs.Read.{still_of}
use Rattle.recipe.specs.Recipe.{recipe_tests, recipe_stages}
use Rattle.room.specs.declared.Lent.{Lent}
use Rattle.room.specs.Room.{room_tests}
use Rattle.filter_answers.specs.declared.Limits.{Limits}
use Rattle.filter_answers.specs.Limits.{stage_limit_test, sample_limit_test}
use Rattle.filter_answers.specs.FileAnswer.{file_size, filtered, still_answer, picture_answer, lending, file_answer}

-- once the recipe is accepted: the still's refusals, then 29, then 20
abbrev pub still_in_one_step : Limits → List Stage → Lent → Result Picture Refusal → Result Filtered Refusal
still_in_one_step m ts l (Err r) = Err r
still_in_one_step m ts l (Ok p) =
    tested Err (sample_limit_test m p.width p.height ∷ room_tests p.width p.height ts (file_size p.width p.height p.channels) l) (Ok (filtered p (tolerance ts)))

module _ (ts : List Stage) (l : Lent) where
  -- a refusal stays, so the buffers may be tested before or behind it
  lending_last : (xs : List Test) (a : Result Filtered Refusal) → lending ts l (tested Err xs a) ≡ tested Err xs (lending ts l a)
  lending_last = tested_through Err Err (lending ts l) (λ r. refl)

  lending-still : (m : Limits) (s : Result Picture Refusal) → lending ts l (still_answer m (tolerance ts) s) ≡ still_in_one_step m ts l s
  lending-still m (Err r) = refl
  lending-still m (Ok p) = lending_last (sample_limit_test m p.width p.height ∷ []) (Ok (filtered p (tolerance ts)))

pub same_answer : (m : Limits) (recipe still : List ℕ) (l : Lent)
    → file_answer m recipe still l ≡ tested Err (recipe_tests recipe ++ stage_limit_test m (recipe_stages recipe) ∷ []) (still_in_one_step m (recipe_stages recipe) l (still_of still))
unfolding file_answer picture_answer
same_answer m recipe still l =
    lending_last (recipe_stages recipe) l (recipe_tests recipe ++ stage_limit_test m (recipe_stages recipe) ∷ []) (still_answer m (tolerance (recipe_stages recipe)) (still_of still))
    ∙ ap (tested Err (recipe_tests recipe ++ stage_limit_test m (recipe_stages recipe) ∷ [])) (lending-still (recipe_stages recipe) l m (still_of still))
