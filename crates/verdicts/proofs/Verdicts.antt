-- The verdict channel by channel, and what it promises of each sample. Assumes nothing.
use Prim.Native.Nat.{ℕ, ◌*◌, ◌≤◌}
use mathlib.Core.Path.{◌≡◌, sym, ◌∙◌}
use mathlib.Core.Bool.{Bool}
use mathlib.Core.List.{List}
use native.Mathlib.Omega.{arith}
use lib.ListN.{length, drop, length-drop}
use borrow.Author.Tests.{leb-true, le-leb}
use Rattle.model.specs.Stage.{Stage}
use Rattle.model.specs.Exact.{denominator, exact_denominator}
use Rattle.channels.specs.Channel.{channel}
use Rattle.recipe_stages.specs.StageBytes.{stage_of}
use Rattle.recipe.specs.Recipe.{recipe_stages}
use Rattle.near_rows.specs.Near.{near}
use Rattle.near_rows.specs.Everywhere.{everywhere}
use Rattle.near_rows.specs.Places.{received_at, channel_near}
use Rattle.near_rows.proofs.EverywhereLaws.{everywhere-at, everywhere-all, everywhere_ext}
use Rattle.filter_answers.proofs.FileAccepted.{shown}
use Rattle.verdict_answers.specs.declared.Comparison.{Comparison}
use Rattle.verdict_answers.proofs.Accepted.{Compared}
use Rattle.verdict_answers.specs.VerdictAnswer.{exact_at, all_near}
use Rattle.exact_stages.specs.Fits.{Fits}
use Rattle.exact_stages.specs.Numerators.{exact_numerator}
use Rattle.verdicts.specs.Compares.{Compares}
use Rattle.verdicts.specs.GivesVerdict.{Promise}
use Rattle.exact_stages.proofs.Stages.{one-stage, the_stage, near-exact}

module _ (c W H channels : ℕ) (ts : List Stage) (raw received : List ℕ) where
  -- whether every received sample of channel k is near
  abbrev pub channel_test : ℕ → Bool
  channel_test k = everywhere H (λ v. everywhere W (λ u. near c (exact_denominator ts) (received_at W channels received k u v) (exact_at W H channels ts raw k u v)))

  -- yes if and only if each sample of each channel is
  pub promise : (said : Bool) → said ≡ all_near c W H channels ts raw received → Promise said c W H channels ts raw received
  unfolding all_near near
  promise said e = record {
    only = λ h k v u a b d. leb-true _ _ (everywhere-at _ W (everywhere-at _ H (everywhere-at _ channels (sym e ∙ h) k a) v b) u d);
    always = λ h. e ∙ everywhere-all _ channels (λ k a. everywhere-all _ H (λ v b. everywhere-all _ W (λ u d. le-leb _ _ (h k v u a b d))));
  }

-- what was found of a channel of the raw still, in a plane of its own
pub channel-tested : {recipe : List ℕ} → Fits recipe → (c W H channels k : ℕ) (raw received plane : List ℕ) (r : Bool) → plane ≡ channel channels (W * H) raw k
    → r ≡ channel_near c (denominator 1 (stage_of (drop 1 recipe)).work) W H (record { channels = channels; index = k }) received (exact_numerator W H (stage_of (drop 1 recipe)) plane)
    → r ≡ channel_test c W H channels (recipe_stages recipe) raw received k
unfolding channel_near
channel-tested {recipe} f c W H channels k raw received plane r e found =
    rw (the_stage recipe (one-stage recipe f.fit), ← e)
    (found ∙ everywhere_ext _ _ H (λ v b. everywhere_ext _ _ W (λ u a. near-exact W H (stage_of (drop 1 recipe)) plane c (received_at W channels received k u v) u v a b)))

-- ---- what the tests have shown is what is needed

module _ {c : ℕ} {recipe raw received : List ℕ} {works : ℕ} {p : Comparison} (s : Compared c recipe raw received works p) where
  pub fits : Fits recipe
  fits = record { accepted = s.accepted; fit = s.fit }

  -- both rasters are there
  pub raw_there : p.raw ≤ length raw
  raw_there = omega (arith, (shown raw s.raw-read).ends)

  pub received_there : p.received ≤ length received
  received_there = omega (arith, (shown received s.received-read).ends)

  pub compares : Compares p.width p.height p.channels (length (drop p.raw raw)) (length (drop p.received received)) works
  compares =
      let x = shown raw s.raw-read in
      record {
        sides = record { width = x.width; height = x.height };
        some = x.channels;
        raw-whole = rw (length-drop p.raw raw) (omega (arith, x.ends));
        received-whole = rw (length-drop p.received received) (omega (arith, (shown received s.received-read).ends));
        room = s.room;
      }
