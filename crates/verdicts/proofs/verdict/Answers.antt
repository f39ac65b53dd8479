-- `verdicts::verdict` meets its contract: the refusal of its tests, or the verdict on every sample. Assumes nothing.
use Prim.Native.Nat.{ℕ}
use mathlib.Core.Path.{◌≡◌, refl, sym}
use mathlib.Core.Bool.{Bool}
use mathlib.Core.List.{List}
use lib.ListN.{length, drop}
use Rattle.std.specs.Prelude.{Ok, Err}
use Rattle.std.proofs.lemmas.Result.{err_from_is_err_and}
use Rattle.lists.proofs.Part.{tail_mid}
use Rattle.refusals.specs.declared.Refusal.{Refusal}
use Rattle.recipe.specs.Recipe.{recipe_stages}
use Rattle.verdict_answers.specs.declared.Comparison.{Comparison}
use Rattle.verdict_answers.specs.Plan.{plan_of}
use Rattle.verdict_answers.specs.VerdictAnswer.{all_near, verdict_answer}
use Rattle.verdict_answers.proofs.Accepted.{Compared, compared}
use Rattle.verdicts.specs.GivesVerdict.{GivesVerdict}
use Rattle.verdicts.proofs.Verdicts.{promise, fits, raw_there, received_there, compares}
use Rattle.verdicts.proofs.verdict.Goals as goal

-- the answers to a plan
module _ (c : ℕ) (recipe raw received work : List ℕ) where
  refused : {r : Refusal} → Err r ≡ plan_of c recipe raw received (length work) → GivesVerdict c recipe raw received work work (Err r)
  unfolding verdict_answer
  refused e = record { answered = rw (← e) refl; promised = tt; work-kept = refl }

  said-so : {p : Comparison} {work' : List ℕ} {said : Bool} → Ok p ≡ plan_of c recipe raw received (length work)
      → said ≡ all_near c p.width p.height p.channels (recipe_stages recipe) (drop p.raw raw) (drop p.received received) → GivesVerdict c recipe raw received work work' (Ok said)
  unfolding verdict_answer
  said-so {p} {said = said} e r = record {
    answered = rw (← e, r) refl;
    promised = rw (← e) (promise c p.width p.height p.channels (recipe_stages recipe) (drop p.raw raw) (drop p.received received) said r);
    work-kept = tt;
  }

pub slice_bounds-all_near-count : goal.slice_bounds-all_near-count
slice_bounds-all_near-count c =
    raw_there (compared c.args.distance c.args.recipe.now c.args.raw.now c.args.received.now (length c.args.work.now) (sym c.in_ok-plan.ensures))

pub slice_bounds-all_near-start : goal.slice_bounds-all_near-start
slice_bounds-all_near-start c =
    raw_there (compared c.args.distance c.args.recipe.now c.args.raw.now c.args.received.now (length c.args.work.now) (sym c.in_ok-plan.ensures))

pub slice_bounds-all_near-count-2 : goal.slice_bounds-all_near-count-2
slice_bounds-all_near-count-2 c =
    received_there (compared c.args.distance c.args.recipe.now c.args.raw.now c.args.received.now (length c.args.work.now) (sym c.in_ok-plan.ensures))

pub slice_bounds-all_near-start-2 : goal.slice_bounds-all_near-start-2
slice_bounds-all_near-start-2 c =
    received_there (compared c.args.distance c.args.recipe.now c.args.raw.now c.args.received.now (length c.args.work.now) (sym c.in_ok-plan.ensures))

pub all_near-requires : goal.all_near-requires
all_near-requires c =
    let s = compared c.args.distance c.args.recipe.now c.args.raw.now c.args.received.now (length c.args.work.now) (sym c.in_ok-plan.ensures) in
    (fits s, rw (tail_mid _ c.args.raw.now, tail_mid _ c.args.received.now) (compares s), s.close)

pub returns-in_err-plan : goal.returns-in_err-plan
returns-in_err-plan c =
    let a = c.args in
    let p = err_from_is_err_and c.from_residual.result c.from_residual.ensures.1 in
    rw (p.1, p.2) (refused a.distance a.recipe.now a.raw.now a.received.now a.work.now c.in_err-plan.ensures)

pub returns : goal.returns
returns c =
    let a = c.args in
    said-so a.distance a.recipe.now a.raw.now a.received.now a.work.now c.in_ok-plan.ensures (rw (tail_mid _ a.raw.now, tail_mid _ a.received.now) at c.all_near.ensures)
