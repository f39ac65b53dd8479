-- THE PROMISE OF `count_movement`: what two runs of the file call wrote is counted, and each motion is true of the exact samples. Assumes nothing.
use Prim.Native.Nat.{ℕ, ◌+◌, ◌-◌, ◌*◌, ◌≤◌, ◌<◌}
use native.Mathlib.Nat.{mul_comm}
use native.Mathlib.Omega.{arith}
use mathlib.Core.Path.{◌≡◌, refl, sym, ap, ◌∙◌}
use mathlib.Core.List.{List, ◌++◌}
use lib.ListN.{length, get_or, drop, get_or-append}
use lib.IntN.{ℤ}
use lib.Seq.{get_or-append-add, take_at, drop_at}
use Rattle.lists.proofs.Raster.{place_fits}
use Rattle.model.specs.Tolerance.{tolerance}
use Rattle.model.specs.Exact.{exact_denominator}
use Rattle.model.specs.Within.{Within}
use Rattle.model.specs.Sound.{Bytes}
use Rattle.model_laws.proofs.Chain.{exact-denominator-pos}
use Rattle.model_laws.proofs.Bounds.{tolerance-le}
use Rattle.header_writer.specs.Heading.{header_bytes}
use Rattle.recipe.proofs.Accepted.{recipe_sound}
use Rattle.std.specs.Prelude.{Result, Ok, Err}
use Rattle.refusals.specs.declared.Refusal.{Refusal}
use Rattle.answers.specs.declared.Movement.{Movement}
use Rattle.filter_answers.specs.Limits.{archive}
use Rattle.filter_answers.specs.FileAnswer.{file_size}
use Rattle.filter_answers.proofs.FileAccepted.{file_accepted, shown as still-shown}
use Rattle.raster_filter.specs.FilteredRaster.{filtered_raster}
use Rattle.raster_filter.proofs.FilteredLaws.{filtered-length}
use Rattle.file_filter.specs.FiltersFile.{FileWithin}
use Rattle.movement.specs.Motion.{unsettled}
use Rattle.movement.specs.Motions.{motions}
use Rattle.movement.specs.Truth.{TrueOf}
use Rattle.movement_laws.proofs.Truth.{motion-true}
use Rattle.movement_laws.proofs.Counting.{counts-add-up, motions-length, motion-at}
use Rattle.room.specs.declared.Lent.{Lent}
use Rattle.movement_answers.specs.declared.Pair.{Pair}
use Rattle.movement_answers.specs.Run.{Run, run, stages, samples, file_of, filtered}
use Rattle.movement_answers.specs.Plan.{plan_of}
use Rattle.movement_answers.specs.MovementAnswer.{motions_between, movement_answer}
use Rattle.movement_answers.proofs.Shown.{picture, Shown}
use Rattle.movement_runs.specs.RunsBoth.{Leaves, raster_in, Countable, counts_in, RunsBoth}
use Rattle.movement_filter.specs.CountsMovement.{exact_sample, Promised, CountsMovement}

-- a plan of two runs, for what is lent to each by its value
pub plan_of_runs : (L : ℕ) (a b : Run) {l l' : Lent} {r : Result Pair Refusal} → l ≡ a.lent → l' ≡ b.lent → r ≡ plan_of L (run a.recipe a.still l) (run b.recipe b.still l') → r ≡ plan_of L a b
plan_of_runs L a b e e' f = f ∙ rw (e, e')

-- a sample of a picture lies in its raster
sample_fits : (W H c k u v : ℕ) → k < c → u < W → v < H → (v * W + u) * c + k < W * H * c
sample_fits W H c k u v bk bu bv = place_fits k (v * W + u) c (W * H) bk (rw (mul_comm W H) (place_fits u v W H bu bv))

-- ---- a run that has its picture and its room

module _ (r : Run) {W H c T n : ℕ} (e : file_of r ≡ picture W H c T n) where
  tolerance-is : tolerance (stages r) ≡ T
  tolerance-is = (file_accepted archive r.recipe r.still r.lent e).T-is

  length-is : length (header_bytes W H c) + W * H * c ≡ n
  unfolding file_size
  length-is = (file_accepted archive r.recipe r.still r.lent e).size_is

  tolerance_small : T ≤ 16711680
  tolerance_small = rw tolerance-is at (tolerance-le (stages r))

  raster_small : W * H * c ≤ 201326592
  raster_small = (still-shown r.still (file_accepted archive r.recipe r.still r.lent e).read).raster_small

  file_fits : n ≤ r.lent.out
  file_fits = let a = file_accepted archive r.recipe r.still r.lent e in omega (arith, a.output, a.size_is)

  -- distances from its exact samples say something
  denominator-pos : Bytes r.recipe → 0 < exact_denominator (stages r)
  denominator-pos bytes = exact-denominator-pos (stages r) (recipe_sound r.recipe bytes (file_accepted archive r.recipe r.still r.lent e).suffices.accepted)

-- ---- the same once the file call has run, and the output that it left

record Ran (r : Run) (W H c T n : ℕ) (out out' : List ℕ) : Type 0 where
  answer : file_of r ≡ picture W H c T n
  output : out' ≡ header_bytes W H c ++ (filtered_raster W H c (stages r) (samples r) ++ drop n out)
  within : FileWithin (picture W H c T n) (stages r) (samples r) out'

ran : (r : Run) {out out' : List ℕ} {W H c T n : ℕ} → file_of r ≡ picture W H c T n → Leaves r out out' → Ran r W H c T n out out'
ran r e l = record { answer = e; output = rw e at l.output; within = rw e at l.within }

module _ {r : Run} {W H c T n : ℕ} {out out' : List ℕ} (h : Ran r W H c T n out out') where
  -- what it wrote behind the header, which ends the file
  raster-written : raster_in (length (header_bytes W H c)) (W * H * c) out' ≡ filtered_raster W H c (stages r) (samples r)
  raster-written =
      rw (h.output, drop_at (header_bytes W H c) (filtered_raster W H c (stages r) (samples r) ++ drop n out) (length (header_bytes W H c)) refl)
      (take_at (filtered_raster W H c (stages r) (samples r)) (drop n out) (W * H * c) (filtered-length W H c (stages r) (samples r)))

  raster_end : {m : ℕ} → m ≡ W * H * c → raster_in (n - m) m out' ≡ filtered_raster W H c (stages r) (samples r)
  raster_end {m} e =
      let start : n - m ≡ length (header_bytes W H c) = omega (arith, length-is r h.answer, e) in
      rw (start, e) raster-written

  -- each of its samples lies within T
  sample_within : (k u v : ℕ) → k < c → u < W → v < H
      → Within T (exact_denominator (stages r)) (get_or (filtered_raster W H c (stages r) (samples r)) ((v * W + u) * c + k) 0) (exact_sample r W H c k u v)
  sample_within k u v bk bu bv =
      let i = (v * W + u) * c + k in
      let there : i < length (filtered_raster W H c (stages r) (samples r)) = rw (filtered-length W H c (stages r) (samples r)) (sample_fits W H c k u v bk bu bv) in
      rw (h.output, get_or-append-add (header_bytes W H c) (filtered_raster W H c (stages r) (samples r) ++ drop n out) i 0, get_or-append (filtered_raster W H c (stages r) (samples r)) (drop n out) 0 i there)
      at (h.within k u v bk bu bv)

-- ---- two runs of pictures of one size

module _ (L : ℕ) (a b : Run) {p : Pair} (s : Shown L a b p) where
  pub countable : Countable L p a.lent.out b.lent.out
  countable = record {
    limit = s.limit;
    first = tolerance_small a s.first_fits;
    second = tolerance_small b s.second_fits;
    few = omega (arith, s.samples-are, raster_small a s.first_fits);
    ends = omega (arith, s.samples-are, length-is a s.first_fits);
    fits1 = file_fits a s.first_fits;
    fits2 = file_fits b s.second_fits;
  }

  module _ {out1 out1' out2 out2' : List ℕ} (f : Ran a s.W s.H s.c p.tolerance1 p.len out1 out1') (g : Ran b s.W s.H s.c p.tolerance2 p.len out2 out2') where
    abbrev raster1 : List ℕ
    raster1 = filtered_raster s.W s.H s.c (stages a) (samples a)

    abbrev raster2 : List ℕ
    raster2 = filtered_raster s.W s.H s.c (stages b) (samples b)

    -- the motions of the answer are those between the two rasters
    between : motions_between L a b ≡ motions L p.tolerance1 p.tolerance2 raster1 raster2
    unfolding motions_between filtered
    between = rw (s.first, s.second, tolerance-is a f.answer, tolerance-is b g.answer)

    -- what is counted in the outputs is the answer
    counted_answer : Ok (counts_in L p out1' out2') ≡ movement_answer L a b
    counted_answer = rw (raster_end f s.samples-are, raster_end g s.samples-are, ← between) (sym (s.answer-is ∙ rw (s.first, tolerance-is a f.answer, tolerance-is b g.answer)))

    module _ (ba : Bytes a.recipe) (bb : Bytes b.recipe) where
      -- each motion is true of the exact samples
      sample_true : (k u v : ℕ) → k < s.c → u < s.W → v < s.H
          → TrueOf (get_or (motions_between L a b) ((v * s.W + u) * s.c + k) unsettled) L (exact_denominator (stages a)) (exact_sample a s.W s.H s.c k u v) (exact_denominator (stages b)) (exact_sample b s.W s.H s.c k u v)
      sample_true k u v bk bu bv =
          let i = (v * s.W + u) * s.c + k in
          let there : i < length raster1 = rw (filtered-length s.W s.H s.c (stages a) (samples a)) (sample_fits s.W s.H s.c k u v bk bu bv) in
          rw (between, motion-at L p.tolerance1 p.tolerance2 raster1 raster2 i there)
          (motion-true L p.tolerance1 (exact_denominator (stages a)) (get_or raster1 i 0) _ p.tolerance2 (exact_denominator (stages b)) (get_or raster2 i 0) _
          (denominator-pos a f.answer ba) (denominator-pos b g.answer bb) (sample_within f k u v bk bu bv) (sample_within g k u v bk bu bv))

      kept_promise : {answer : Result Movement Refusal} → answer ≡ movement_answer L a b → Promised answer L a b out1' out2'
      kept_promise e =
          rw (e, s.answer-is, s.first, tolerance-is a f.answer, tolerance-is b g.answer)
          (record {
            written = rw (raster-written f, raster-written g) between;
            counted = record { moved-are = refl; still-are = refl; open-are = refl };
            add-up = counts-add-up (motions_between L a b) ∙ ap length between ∙ motions-length L p.tolerance1 p.tolerance2 raster1 raster2 ∙ filtered-length s.W s.H s.c (stages a) (samples a);
            exactly = sample_true;
          })

      counts_movement : {work work' : List ℕ} {rows rows' : List ℤ} {sums sums' : List ℕ} {m : Movement} → m ≡ counts_in L p out1' out2'
          → CountsMovement L a b work work' rows rows' sums sums' out1 out1' out2 out2' (Ok m)
      counts_movement {m = m} e =
          let q : Ok m ≡ movement_answer L a b = rw e counted_answer in
          record {
            answered = q;
            output1 = rw f.answer f.output;
            output2 = rw g.answer g.output;
            promised = kept_promise q;
            work-kept = tt;
            rows-kept = tt;
            sums_kept = tt;
          }

  -- ---- what the call ensures

  pub movement_counted : Bytes a.recipe → Bytes b.recipe → {work work' : List ℕ} {rows rows' : List ℤ} {sums sums' out1 out1' out2 out2' : List ℕ} {m : Movement}
      → RunsBoth L a b p out1 out1' out2 out2' m → CountsMovement L a b work work' rows rows' sums sums' out1 out1' out2 out2' (Ok m)
  movement_counted ba bb h = counts_movement (ran a s.first_fits h.first) (ran b s.second_fits h.second) ba bb h.counted

-- a refusal leaves all as it was
pub movement_refused : (L : ℕ) (a b : Run) {work : List ℕ} {rows : List ℤ} {sums out1 out2 : List ℕ} {r : Refusal} → movement_answer L a b ≡ Err r
    → CountsMovement L a b work work rows rows sums sums out1 out1 out2 out2 (Err r)
movement_refused L a b e = record { answered = sym e; output1 = refl; output2 = refl; promised = tt; work-kept = refl; rows-kept = refl; sums_kept = refl }
