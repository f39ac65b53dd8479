-- DEMAND 3 of `filter_plane`: what is written and T are the model's, so each written sample lies within T. Assumes nothing.
use Prim.Native.Nat.{ℕ, ◌+◌, ◌*◌, ◌<◌}
use native.Mathlib.Nat.{mul_comm}
use mathlib.Core.Path.{◌≡◌, refl, sym, ◌∙◌}
use mathlib.Core.List.{List, [], ◌∷◌, ◌++◌}
use lib.ListN.{length, get_or, drop, get_or-append}
use lib.IntN.{ℤ}
use Rattle.lists.proofs.Raster.{length-raster, place_fits}
use Rattle.model.specs.Stage.{Stage, written}
use Rattle.model.specs.Tolerance.{tolerance}
use Rattle.model.specs.Exact.{exact, exact_denominator}
use Rattle.model.specs.Within.{Within}
use Rattle.model.specs.Sound.{Sound, Bytes}
use Rattle.model_laws.proofs.Chain.{within_tolerance}
use Rattle.std.specs.Prelude.{Result, Ok, Err}
use Rattle.refusals.specs.declared.Refusal.{Refusal}
use Rattle.recipe.specs.Recipe.{recipe_stages}
use Rattle.recipe.proofs.Accepted.{recipe_sound}
use Rattle.room.specs.Room.{lent}
use Rattle.filter_answers.specs.PlaneAnswer.{plane_answer}
use Rattle.filter_answers.proofs.PlaneAccepted.{PlaneAccepted, plane_accepted}
use Rattle.plane_filter.specs.FiltersPlane.{FiltersPlane}

-- stages keep a plane's size
pub length-written : (W H : ℕ) (ts : List Stage) (s : List ℕ) → length s ≡ H * W → length (written W H ts s) ≡ H * W
unfolding written
length-written W H [] s e = e
length-written W H (t ∷ ts) s e = length-written W H ts _ (length-raster _ W H)

module _ (W H : ℕ) (ts : List Stage) (sound : Sound ts) {T : ℕ} (e : tolerance ts ≡ T) (u v : ℕ) (bu : u < W) (bv : v < H) where
  -- a plane
  pub plane_within : (plane tail out : List ℕ) → length plane ≡ W * H → Bytes plane → out ≡ written W H ts plane ++ tail
      → Within T (exact_denominator ts) (get_or out (v * W + u) 0) (get_or (exact W H ts plane) (v * W + u) 0)
  plane_within plane tail out l b o =
      let n = length-written W H ts plane (l ∙ mul_comm W H) in
      rw (o, get_or-append (written W H ts plane) tail 0 (v * W + u) (rw n (place_fits u v W H bu bv)), ← e)
      (within_tolerance W H ts plane sound b (v * W + u))

-- ---- what the call ensures, by its answer

module _ (recipe : List ℕ) (W H : ℕ) (plane work : List ℕ) (rows : List ℤ) (sums out : List ℕ) (answer : Result ℕ Refusal) (e : answer ≡ plane_answer recipe W H (length plane) (lent (length work) (length rows) (length sums) (length out))) where
  -- a refusal leaves all as it was
  pub plane_refuses : {r : Refusal} → answer ≡ Err r → FiltersPlane recipe W H plane work work rows rows sums sums out out answer
  plane_refuses f = record { answered = e; output = rw f; within = rw f tt; work-kept = rw f refl; rows-kept = rw f refl; sums_kept = rw f refl }

  module _ {T : ℕ} (f : answer ≡ Ok T) where
    -- what an answer with T has shown
    pub plane_shown : PlaneAccepted recipe W H (length plane) (lent (length work) (length rows) (length sums) (length out)) T
    plane_shown = plane_accepted recipe W H (length plane) (lent (length work) (length rows) (length sums) (length out)) (sym e ∙ f)

    -- what was written lies within T
    pub plane_filters : {work' : List ℕ} {rows' : List ℤ} {sums' out' : List ℕ} → Bytes recipe → Bytes plane → out' ≡ written W H (recipe_stages recipe) plane ++ drop (W * H) out
        → FiltersPlane recipe W H plane work work' rows rows' sums sums' out out' answer
    plane_filters rb pb o = record {
      answered = e;
      output = rw f o;
      within = rw f (λ u v bu bv. plane_within W H (recipe_stages recipe) (recipe_sound recipe rb plane_shown.suffices.accepted) plane_shown.T-is u v bu bv plane _ _ plane_shown.whole pb o);
      work-kept = rw f tt;
      rows-kept = rw f tt;
      sums_kept = rw f tt;
    }
