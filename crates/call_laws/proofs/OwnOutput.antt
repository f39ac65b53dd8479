-- THE FILTER'S OWN OUTPUT GETS A YES, of every run of `filter_file` by a recipe that a verdict takes: at every distance of at least T, so where T is at most 65,536·c. Assumes nothing.
use Prim.Native.Nat.{ℕ, ◌+◌, ◌*◌, ◌≤◌, ◌<◌}
use native.Mathlib.Nat.{mul-le-mul}
use native.Mathlib.Omega.{arith}
use mathlib.Core.Path.{◌≡◌, refl, sym, ap, ◌∙◌}
use mathlib.Core.Bool.{true}
use mathlib.Core.List.{List}
use lib.ListN.{length, get_or, take, drop}
use lib.Seq.{get_or-drop, get_or-take}
use lib.IntN.{ℤ}
use borrow.Author.Tests.{le-leb, eq-eqb}
use Rattle.lists.proofs.Raster.{place_fits}
use Rattle.model.specs.Tolerance.{tolerance}
use Rattle.model.specs.Exact.{exact_denominator}
use Rattle.model.specs.Within.{distance, Within}
use Rattle.std.specs.Prelude.{Ok}
use Rattle.answers.specs.declared.Filtered.{Filtered}
use Rattle.header_writer.specs.Heading.{header_bytes}
use Rattle.recipe.specs.Recipe.{recipe_stages}
use Rattle.room.specs.Room.{lent}
use Rattle.filter_answers.specs.declared.Limits.{Limits}
use Rattle.filter_answers.specs.FileAnswer.{file_size}
use Rattle.filter_answers.proofs.FileAccepted.{FileAccepted, file_accepted}
use Rattle.file_filter.specs.FiltersFile.{FiltersFile}
use Rattle.near_rows.specs.Near.{near}
use Rattle.near_rows.specs.Places.{received_at}
use Rattle.near_rows.proofs.EverywhereLaws.{everywhere-all}
use Rattle.verdict_answers.specs.Plan.{fit_stage, plan_of}
use Rattle.verdict_answers.specs.VerdictAnswer.{exact_at, all_near, verdict_answer}
use Rattle.verdict_answers.proofs.Plans.{plan_stills}
use Rattle.call_laws.proofs.Back.{filtered_reads_back}

-- within T is within c levels
within_levels : (T c N y x : ℕ) → T ≤ 65536 * c → Within T N y x → distance (N * y) x ≤ c * N
unfolding Within
within_levels T c N y x h w = omega (arith, w, mul-le-mul {m₁ = N} {m₂ = N} h (omega arith))

-- the sample at a place of a raster that begins at byte `start` of a file's first n bytes
sample_there : (file : List ℕ) (start n i : ℕ) → start + i < n → get_or (drop start (take n file)) i 0 ≡ get_or file (start + i) 0
sample_there file start n i h = get_or-drop start (take n file) i 0 ∙ get_or-take n file (start + i) 0 h

module _ (m : Limits) (recipe still work work' : List ℕ) (rows rows' : List ℤ) (sums sums' out out' : List ℕ) {p : Filtered}
    (run : FiltersFile m recipe still work work' rows rows' sums sums' out out' (Ok p)) (fit : fit_stage recipe ≡ true)
    (c works : ℕ) (close : c ≤ 255) (room : p.width * p.height ≤ works) where
  abbrev begin : ℕ
  begin = length (header_bytes p.width p.height p.channels)

  shown : FileAccepted recipe still (lent (length work) (length rows) (length sums) (length out)) p
  shown = file_accepted m recipe still (lent (length work) (length rows) (length sums) (length out)) (sym run.answered)

  -- nothing is refused: the output reads back as a picture of the still's size
  compared : plan_of c recipe still (take p.len out') works ≡ Ok (record { width = p.width; height = p.height; channels = p.channels; raw = shown.start; received = begin })
  compared =
      let back = filtered_reads_back m recipe still work work' rows rows' sums sums' out out' p run in
      plan_stills c recipe still (take p.len out') works (le-leb c 255 close) shown.suffices.accepted fit
      ∙ rw (shown.read, back.picture, eq-eqb p.width p.width refl, eq-eqb p.height p.height refl, eq-eqb p.channels p.channels refl, le-leb (p.width * p.height) works room) refl

  -- the place of a sample is inside the output
  inside : (k v u : ℕ) → k < p.channels → v < p.height → u < p.width → begin + ((v * p.width + u) * p.channels + k) < p.len
  unfolding file_size
  inside k v u a b d = omega (arith, shown.size_is, place_fits k (v * p.width + u) p.channels (p.height * p.width) a (place_fits u v p.width p.height d b))

  module _ (tight : tolerance (recipe_stages recipe) ≤ 65536 * c) where
    -- each sample of it is near
    sample_near : (k v u : ℕ) → k < p.channels → v < p.height → u < p.width
        → distance (exact_denominator (recipe_stages recipe) * received_at p.width p.channels (drop begin (take p.len out')) k u v) (exact_at p.width p.height p.channels (recipe_stages recipe) (drop shown.start still) k u v)
        ≤ c * exact_denominator (recipe_stages recipe)
    sample_near k v u a b d =
        rw (sample_there out' begin p.len ((v * p.width + u) * p.channels + k) (inside k v u a b d))
        (within_levels p.tolerance c (exact_denominator (recipe_stages recipe)) _ _ (rw shown.T-is at tight) (rw shown.read at (run.within k u v a d b)))

    pub own_output : verdict_answer c recipe still (take p.len out') works ≡ Ok true
    unfolding verdict_answer all_near near
    own_output =
        rw compared
        (ap Ok (everywhere-all _ p.channels (λ k a. everywhere-all _ p.height (λ v b. everywhere-all _ p.width (λ u d. le-leb _ _ (sample_near k v u a b d))))))
