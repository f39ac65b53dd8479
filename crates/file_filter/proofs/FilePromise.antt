-- DEMAND 3 of `filter_file`: what is written and T are the model's, so each written sample lies within T. Assumes nothing.
use Prim.Native.Nat.{ℕ, ◌+◌, ◌*◌, ◌-◌, ◌<◌}
use native.Mathlib.Nat.{mul_comm}
use native.Mathlib.Omega.{arith}
use mathlib.Core.Path.{◌≡◌, refl, sym, ◌∙◌}
use mathlib.Core.List.{List, ◌++◌}
use lib.ListN.{length, get_or, drop, get_or-append}
use lib.IntN.{ℤ}
use lib.Seq.{get_or-append-add}
use Rattle.lists.proofs.Raster.{place_fits}
use Rattle.model.specs.Stage.{Stage, written}
use Rattle.model.specs.Tolerance.{tolerance}
use Rattle.model.specs.Exact.{exact, exact_denominator}
use Rattle.model.specs.Within.{Within}
use Rattle.model.specs.Sound.{Sound, Bytes}
use Rattle.model_laws.proofs.Chain.{within_tolerance}
use Rattle.channels.specs.Channel.{channel, interleave}
use Rattle.channels.proofs.Interleaved.{interleave-at, length-interleave, channel_bytes}
use Rattle.std.specs.Prelude.{Result, Ok, Err}
use Rattle.refusals.specs.declared.Refusal.{Refusal}
use Rattle.answers.specs.declared.Filtered.{Filtered}
use Rattle.header_writer.specs.Heading.{header_bytes}
use Rattle.recipe_bytes.proofs.ByteLaws.{bytes_drop}
use Rattle.recipe.specs.Recipe.{recipe_stages}
use Rattle.recipe.proofs.Accepted.{recipe_sound}
use Rattle.room.specs.Room.{lent}
use Rattle.filter_answers.specs.declared.Limits.{Limits}
use Rattle.filter_answers.specs.FileAnswer.{file_size, file_answer}
use Rattle.filter_answers.proofs.FileAccepted.{FileAccepted, file_accepted}
use Rattle.raster_filter.specs.FilteredRaster.{filtered_raster}
use Rattle.file_filter.specs.FiltersFile.{FiltersFile}

module _ (W H : ℕ) (ts : List Stage) (sound : Sound ts) {T : ℕ} (e : tolerance ts ≡ T) (u v : ℕ) (bu : u < W) (bv : v < H) where
  -- a channel of a file, behind a header
  pub file_within : (c k : ℕ) (raster head tail out : List ℕ) → k < c → Bytes raster → out ≡ head ++ (filtered_raster W H c ts raster ++ tail)
      → Within T (exact_denominator ts) (get_or out (length head + ((v * W + u) * c + k)) 0) (get_or (exact W H ts (channel c (W * H) raster k)) (v * W + u) 0)
  unfolding filtered_raster
  file_within c k raster head tail out bk b o =
      let i = v * W + u in
      let inside : i < W * H = rw (mul_comm W H) (place_fits u v W H bu bv) in
      let planes : ℕ → List ℕ = λ j. written W H ts (channel c (W * H) raster j) in
      let there : i * c + k < length (interleave c (W * H) planes) = rw (length-interleave c (W * H) planes) (place_fits k i c (W * H) bk inside) in
      rw (o, get_or-append-add head (interleave c (W * H) planes ++ tail) (i * c + k) 0, get_or-append (interleave c (W * H) planes) tail 0 (i * c + k) there, interleave-at c (W * H) planes i k inside bk, ← e)
      (within_tolerance W H ts (channel c (W * H) raster k) sound (λ j. omega (arith, channel_bytes c (W * H) raster k (λ i. omega (arith, b i)) j)) i)

-- ---- what the call ensures, by its answer

module _ (m : Limits) (recipe still work : List ℕ) (rows : List ℤ) (sums out : List ℕ) (answer : Result Filtered Refusal) (e : answer ≡ file_answer m recipe still (lent (length work) (length rows) (length sums) (length out))) where
  -- a refusal leaves all as it was
  pub file_refuses : {n : Refusal} → answer ≡ Err n → FiltersFile m recipe still work work rows rows sums sums out out answer
  file_refuses f = record { answered = e; output = rw f; within = rw f tt; work-kept = rw f refl; rows-kept = rw f refl; sums_kept = rw f refl }

  module _ {p : Filtered} (f : answer ≡ Ok p) where
    -- what an answer with a picture has shown
    pub file_shown : FileAccepted recipe still (lent (length work) (length rows) (length sums) (length out)) p
    file_shown = file_accepted m recipe still (lent (length work) (length rows) (length sums) (length out)) (sym e ∙ f)

    -- what was written lies within T
    pub file_filters : {work' : List ℕ} {rows' : List ℤ} {sums' out' : List ℕ} → Bytes recipe → Bytes still
        → out' ≡ header_bytes p.width p.height p.channels ++ (filtered_raster p.width p.height p.channels (recipe_stages recipe) (drop (length still - p.width * p.height * p.channels) still) ++ drop (file_size p.width p.height p.channels) out)
        → FiltersFile m recipe still work work' rows rows' sums sums' out out' answer
    file_filters rb sb o =
        let sound = recipe_sound recipe rb file_shown.suffices.accepted in
        let raster = drop (length still - p.width * p.height * p.channels) still in record {
          answered = e;
          output = rw (f, file_shown.samples, ← file_shown.size_is) o;
          within = rw (f, file_shown.samples) (λ k u v bk bu bv. file_within p.width p.height (recipe_stages recipe) sound file_shown.T-is u v bu bv p.channels k raster (header_bytes p.width p.height p.channels) _ _ bk (bytes_drop (length still - p.width * p.height * p.channels) still sb) o);
          work-kept = rw f tt;
          rows-kept = rw f tt;
          sums_kept = rw f tt;
        }
