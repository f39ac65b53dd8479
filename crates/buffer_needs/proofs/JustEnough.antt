-- WHAT IS NAMED IS ENOUGH, AND LESS IS NOT: with what `needs` names for a whole still `filter_file` runs, with its T and its length; with less of anything it
-- refuses with 20. Assumes nothing.
use Prim.Native.Nat.{ℕ, ◌+◌, ◌*◌}
use native.Mathlib.Omega.{arith}
use mathlib.Core.Path.{◌≡◌, refl, sym, ap, ◌∙◌}
use mathlib.Core.List.{List}
use lib.ListN.{length}
use Rattle.std.specs.Prelude.{Result, Ok, Err}
use Rattle.refusals.specs.declared.Refusal.{Refusal}
use Rattle.refusals.specs.Refusal.{tested, verdict}
use Rattle.refusals.proofs.Passed.{passed, passed_all}
use Rattle.model.specs.Tolerance.{tolerance}
use Rattle.answers.specs.declared.Picture.{Picture}
use Rattle.answers.specs.declared.Filtered.{Filtered}
use Rattle.answers.specs.declared.Needs.{Needs}
use Rattle.still_reader.specs.Head.{head_of}
use Rattle.still_reader.proofs.Headed.{read_headed, headed_read}
use Rattle.recipe.specs.Recipe.{recipe_tests, recipe_stages}
use Rattle.room.specs.declared.Lent.{Lent}
use Rattle.room.specs.Room.{lent, needs, enough_tests, room_tests}
use Rattle.room.proofs.Suffices.{Short, enough_passes, short_refused}
use Rattle.filter_answers.specs.declared.Limits.{Limits}
use Rattle.filter_answers.specs.Limits.{archive}
use Rattle.filter_answers.specs.FileAnswer.{filtered, picture_answer, file_answer}
use Rattle.filter_answers.proofs.FileAccepted.{picture_read, pictured}
use Rattle.filter_answers.proofs.NoLimit.{archive_itself, stages_within, samples_within}
use Rattle.buffer_needs.specs.NeedsAnswer.{lengths, head_needs, needs_answer}
use Rattle.buffer_needs.proofs.Named.{head_decides}

-- ---- a picture that is within its caller's limits

module _ (m : Limits) (recipe still : List ℕ) {f : Filtered} (e : picture_answer m recipe still ≡ Ok f) where
  -- its needs are named
  pub needs_named : needs_answer recipe still ≡ Ok (lengths (needs f.width f.height (recipe_stages recipe) f.len) f.tolerance)
  needs_named =
      let p = pictured m recipe still e in
      let need : Filtered → Result Needs Refusal = λ f. Ok (lengths (needs f.width f.height (recipe_stages recipe) f.len) f.tolerance) in
      head_decides recipe still p.accepted ∙ rw (read_headed still p.read).0 (ap need (sym p.is))

  -- and decide whether it runs
  pub needs_decide : (l : Lent) → file_answer m recipe still l ≡ tested Err (enough_tests (needs f.width f.height (recipe_stages recipe) f.len) l) (Ok f)
  unfolding file_answer room_tests
  needs_decide l = rw e refl

-- just what is needed passes
pub just_passes : (need : Lent) (a : Result Filtered Refusal) → tested Err (enough_tests need need) a ≡ a
just_passes need a = enough_passes Err need need a (omega arith) (omega arith) (omega arith) (omega arith)

-- ---- a still with its whole raster and nothing after it

-- what is lent where just what was named is
abbrev pub named_lent : Needs → Lent
named_lent n = lent n.works n.rows n.sums n.out

-- the picture that is answered then, with the T and the length that were named
abbrev pub named_answer : Needs → Picture → Filtered
named_answer n p = record { width = p.width; height = p.height; channels = p.channels; tolerance = n.tolerance; len = n.out }

module _ (recipe still : List ℕ) {n : Needs} (named : needs_answer recipe still ≡ Ok n)
    {p : Picture} (head : head_of still ≡ Ok p) (whole : length still ≡ p.start + p.width * p.height * p.channels) where
  recipe_accepted : verdict (recipe_tests recipe) ≡ Ok tt
  unfolding needs_answer
  recipe_accepted = passed_all _ (passed Err (recipe_tests recipe) (head_needs (recipe_stages recipe) (head_of still)) (Ok n) (λ r f. cc) named).0

  taken : picture_answer archive recipe still ≡ Ok (filtered p (tolerance (recipe_stages recipe)))
  taken =
      let read = headed_read still head whole in
      picture_read archive recipe still recipe_accepted (stages_within archive_itself recipe recipe_accepted) read (samples_within archive_itself still read)

  -- the archive's answer, whatever is lent: 20 for less than was named, else the picture with the T and the length that were
  pub named_decides : (l : Lent) → file_answer archive recipe still l ≡ tested Err (enough_tests (named_lent n) l) (Ok (named_answer n p))
  named_decides l =
      let f = filtered p (tolerance (recipe_stages recipe)) in
      let same : lengths (needs f.width f.height (recipe_stages recipe) f.len) f.tolerance ≡ n = cc (needs_named archive recipe still taken, named) in
      needs_decide archive recipe still taken l ∙ ap (λ (n : Needs). tested Err (enough_tests (named_lent n) l) (Ok (named_answer n p))) same

  pub just_enough : file_answer archive recipe still (named_lent n) ≡ Ok (named_answer n p)
  just_enough = named_decides (named_lent n) ∙ just_passes (named_lent n) (Ok (named_answer n p))

  -- where some length is below what was named, by one element or more
  pub too_little : (l : Lent) → Short (named_lent n) l → file_answer archive recipe still l ≡ Err Refusal.Room
  too_little l h = named_decides l ∙ short_refused Err (named_lent n) l (Ok (named_answer n p)) h
