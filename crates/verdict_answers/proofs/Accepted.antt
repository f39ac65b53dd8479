-- What a verdict that is not refused has shown. Assumes nothing.
use Prim.Native.Nat.{ℕ, ◌*◌, ◌≤◌}
use native.Mathlib.Omega.{arith}
use mathlib.Core.Path.{◌≡◌, refl}
use mathlib.Core.Bool.{true, ◌&&◌, and-eq-true_iff}
use mathlib.Core.List.{List, [], ◌∷◌}
use lib.Dec.{eqb}
use borrow.Author.Tests.{leb-true, eqb-true}
use Rattle.std.specs.Prelude.{Result, Ok, Err}
use Rattle.refusals.specs.declared.Refusal.{Refusal}
use Rattle.refusals.specs.declared.Refusal.TheVariants.{VerdictStage}
use Rattle.refusals.specs.Refusal.{verdict}
use Rattle.refusals.proofs.Passed.{passed, all_append, passed_all}
use Rattle.answers.specs.declared.Picture.{Picture}
use Rattle.still_reader.specs.Read.{still_of}
use Rattle.recipe.specs.Recipe.{recipe_tests}
use Rattle.verdict_answers.specs.declared.Comparison.{Comparison}
use Rattle.verdict_answers.specs.Plan.{fit_stage, request_tests, pair_tests, comparison_of, stills_plan, plan_of}

-- the picture that is compared, with a raster that begins at this byte
abbrev pub picture_from : Comparison → ℕ → Picture
picture_from p start = record { width = p.width; height = p.height; channels = p.channels; start = start }

-- a distance of at most 255, an accepted recipe of one fitting stage, two pictures of one size, and work bytes for one channel
pub record Compared (c : ℕ) (recipe raw received : List ℕ) (works : ℕ) (p : Comparison) : Type 0 where
  pub close : c ≤ 255
  pub accepted : verdict (recipe_tests recipe) ≡ Ok tt
  pub fit : fit_stage recipe ≡ true
  pub raw-read : still_of raw ≡ Ok (picture_from p p.raw)
  pub received-read : still_of received ≡ Ok (picture_from p p.received)
  pub room : p.width * p.height ≤ works

-- a plan is no refusal
no_refusal : {p : Comparison} (r : Refusal) → Err r ≡ Ok p → ⊥
no_refusal r e = let z : ◌≡◌ {A = ℕ} 0 1 = cc in absurd (omega arith)

-- what both stills have shown
record Pair (first second : Result Picture Refusal) (works : ℕ) (p : Comparison) : Type 0 where
  raw-is : first ≡ Ok (picture_from p p.raw)
  received_is : second ≡ Ok (picture_from p p.received)
  enough : p.width * p.height ≤ works

pair : (works : ℕ) (first second : Result Picture Refusal) {p : Comparison} → stills_plan works first second ≡ Ok p → Pair first second works p
pair works (Err r) second e = absurd (no_refusal r e)
pair works (Ok x) (Err r) e = absurd (no_refusal r e)
pair works (Ok x) (Ok y) {p} e =
    let t = passed Err (pair_tests x y works) (Ok (comparison_of x y)) (Ok p) no_refusal e in
    let same = t.1 in
    let is : comparison_of x y ≡ p = cc in
    let sizes = (and-eq-true_iff (eqb x.width y.width) (eqb x.height y.height && eqb x.channels y.channels)).0 t.0.0 in
    let rest = (and-eq-true_iff (eqb x.height y.height) (eqb x.channels y.channels)).0 sizes.1 in
    rw (← is)
    (record {
      raw-is = refl;
      received_is = rw (eqb-true x.width y.width sizes.0, eqb-true x.height y.height rest.0, eqb-true x.channels y.channels rest.1) refl;
      enough = leb-true (x.width * x.height) works t.0.1.0;
    })

pub compared : (c : ℕ) (recipe raw received : List ℕ) (works : ℕ) {p : Comparison} → plan_of c recipe raw received works ≡ Ok p → Compared c recipe raw received works p
unfolding plan_of request_tests
compared c recipe raw received works e =
    let p = passed Err (request_tests c recipe) (stills_plan works (still_of raw) (still_of received)) _ no_refusal e in
    let q = all_append (recipe_tests recipe) ((fit_stage recipe, VerdictStage) ∷ []) p.0.1 in
    let s = pair works (still_of raw) (still_of received) p.1 in
    record {
      close = leb-true c 255 p.0.0;
      accepted = passed_all (recipe_tests recipe) q.0;
      fit = q.1.0;
      raw-read = s.raw-is;
      received-read = s.received_is;
      room = s.enough;
    }
