-- WHAT FITS THE PROGRAM: a still of 96 by 72 with every recipe that is accepted, and one of 144 by 96 with none. Assumes nothing.
use Prim.Native.Nat.{ℕ, zero, suc, ◌+◌, ◌*◌, ◌≤◌}
use native.Mathlib.Nat.{mul-le-mul}
use native.Mathlib.Omega.{arith}
use mathlib.Core.Path.{◌≡◌, refl, ◌∙◌}
use mathlib.Core.List.{List}
use lib.ListN.{length, drop}
use borrow.Author.Tests.{le-leb}
use Rattle.refusals.specs.Refusal.{verdict}
use Rattle.std.specs.Prelude.{Ok, Err}
use Rattle.refusals.specs.declared.Refusal.TheVariants.{Room}
use Rattle.refusals.proofs.Passed.{AllPass, all_pass, all_append, passed_all}
use Rattle.model.specs.Stage.{stage}
use Rattle.model.specs.Tolerance.{tolerance}
use Rattle.answers.specs.declared.Picture.{Picture}
use Rattle.answers.specs.declared.Recipe.{Recipe}
use Rattle.picture_sizes.proofs.PictureSizeLaws.{channels_few}
use Rattle.still_reader.specs.Read.{still_of}
use Rattle.header_writer.specs.Heading.{header_bytes}
use Rattle.header_writer.proofs.HeadingLaws.{header-length}
use Rattle.round_trip.proofs.RoundTrip.{picture_valid}
use Rattle.recipe_bytes.specs.Bytes.{at}
use Rattle.recipe_kernels.specs.Kernels.{weighted_work}
use Rattle.recipe_stages.specs.StageBytes.{work_tests, work_of, stage_tests, stage_length, stage_of}
use Rattle.recipe_stages.proofs.ByKind.{radii_kind, head_known, stage-parts}
use Rattle.recipe.specs.Recipe.{stages_tests, stages_of, recipe_tests, recipe_stages, recipe_of}
use Rattle.recipe.proofs.Accepted.{recipe_read}
use Rattle.table_sizes.specs.Needs.{work_sums, sum_need}
use Rattle.room.specs.Room.{room_tests}
use Rattle.filter_answers.specs.Limits.{archive}
use Rattle.filter_answers.specs.FileAnswer.{file_size, filtered, picture_answer}
use Rattle.filter_answers.proofs.FileAccepted.{picture_read, file_refused, file_done}
use Rattle.filter_answers.proofs.NoLimit.{archive_itself, stages_within, samples_within}
use Rattle.program_filter.specs.Program.{program_lent, program_answer}

-- ---- a recipe that is accepted has no larger window than 31 by 31

module _ (W : ℕ) where
  -- of a stage after its header bytes
  work_most : (kind : ℕ) (b : List ℕ) → 1 ≤ kind → kind ≤ 6 → verdict (work_tests kind b) ≡ Ok tt → work_sums W (work_of kind b) ≤ (W + 31) * 32
  unfolding work_sums work_of weighted_work
  work_most zero b l h e = absurd (omega (arith, l))
  work_most (suc zero) b l h e = omega arith
  work_most (suc (suc zero)) b l h e = omega arith
  work_most (suc (suc (suc zero))) b l h e = omega arith
  work_most (suc (suc (suc (suc zero)))) b l h e = let r = radii_kind b 4 (omega arith) (omega arith) e in mul-le-mul {n₂ = W + 31} {m₂ = 32} (omega (arith, r.0)) (omega (arith, r.1))
  work_most (suc (suc (suc (suc (suc zero))))) b l h e = omega arith
  work_most (suc (suc (suc (suc (suc (suc zero)))))) b l h e = omega arith
  work_most (suc (suc (suc (suc (suc (suc (suc k))))))) b l h e = absurd (omega (arith, h))

  stages_most : (k : ℕ) (b : List ℕ) → AllPass (stages_tests k b) → sum_need W (stages_of k b) ≤ (W + 31) * 32
  unfolding stages_tests stages_of sum_need stage_of stage
  stages_most zero b p = omega arith
  stages_most (suc k) b p =
      let q = all_append (stage_tests b) (stages_tests k (drop (stage_length b) b)) p in
      let parts = stage-parts b (passed_all (stage_tests b) q.0) in
      let kind = head_known b parts.0 in
      omega (arith, work_most (at b 0) (drop 3 b) kind.0 kind.1 parts.1, stages_most k (drop (stage_length b) b) q.1)

  pub sums_most : (b : List ℕ) → verdict (recipe_tests b) ≡ Ok tt → sum_need W (recipe_stages b) ≤ (W + 31) * 32
  unfolding recipe_tests recipe_stages
  sums_most b e = stages_most (at b 0) (drop 1 b) (all_pass (recipe_tests b) e).1.1

-- ---- the two sizes

-- a picture of this size
abbrev pub sized : ℕ → ℕ → ℕ → ℕ → Picture
sized c start W H = record { width = W; height = H; channels = c; start = start }

module _ (recipe still : List ℕ) {r : Recipe} (accepted : recipe_of recipe ≡ Ok r) {c start : ℕ} where
  within_limits : {W H : ℕ} → still_of still ≡ Ok (sized c start W H) → picture_answer archive recipe still ≡ Ok (filtered (sized c start W H) (tolerance (recipe_stages recipe)))
  within_limits e =
      let v = (recipe_read recipe accepted).0 in
      picture_read archive recipe still v (stages_within archive_itself recipe v) e (samples_within archive_itself still e)

  enough : still_of still ≡ Ok (sized c start 96 72) → verdict (room_tests 96 72 (recipe_stages recipe) (file_size 96 72 c) program_lent) ≡ Ok tt
  unfolding room_tests file_size verdict
  enough e =
      rw (
        le-leb (sum_need 96 (recipe_stages recipe)) 16384 (omega (arith, sums_most 96 recipe (recipe_read recipe accepted).0)),
        le-leb (length (header_bytes 96 72 c) + 96 * 72 * c) 65536 (omega (arith, header-length 96 72 c (omega arith) (omega arith), channels_few c (picture_valid still e).channels)),
      )

  -- 96 by 72, of one channel or three: 20 is not answered, and no other refusal either
  pub fits_96_by_72 : still_of still ≡ Ok (sized c start 96 72) → program_answer recipe still ≡ Ok (filtered (sized c start 96 72) r.tolerance)
  unfolding program_answer
  fits_96_by_72 e =
      let q = recipe_read recipe accepted in
      file_done archive recipe still program_lent (within_limits e) (enough e) ∙ rw q.1

  -- 144 by 96: too few row values are lent
  pub refused_144_by_96 : still_of still ≡ Ok (sized c start 144 96) → program_answer recipe still ≡ Err Room
  unfolding program_answer room_tests verdict
  refused_144_by_96 e = file_refused archive recipe still program_lent (within_limits e) refl
