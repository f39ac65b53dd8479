-- What is compared of each kind of stage is its exact result. Assumes nothing.
use Prim.Native.Nat.{ℕ, ◌*◌, ◌≤◌}
use native.Mathlib.Nat.{one-mul}
use mathlib.Core.Path.{◌≡◌, refl, sym, ◌∙◌}
use mathlib.Core.Bool.{false}
use mathlib.Core.List.{List}
use lib.ListN.{length, drop}
use lib.Seq.{drop-drop}
use Rattle.refusals.specs.Refusal.{verdict}
use Rattle.std.specs.Prelude.{Ok}
use Rattle.model.specs.Kernel.{kernel}
use Rattle.model.specs.Window.{area}
use Rattle.model.specs.Stage.{weighted, box, rank, outline}
use Rattle.model.specs.Exact.{denominator, numerator}
use Rattle.stage_values.specs.declared.Window.{Window}
use Rattle.stage_values.specs.declared.Rank.{Rank}
use Rattle.stage_values.specs.declared.Work.TheVariants.{Weighted, Boxed, Ranked, Outlined}
use Rattle.stage_values.specs.declared.Stage as Code
use Rattle.stage_values.specs.Stands.{Does, Stands}
use Rattle.frame.specs.declared.Frame.{Frame}
use Rattle.frame.specs.Framed.{Framed, neighbours}
use Rattle.recipe_bytes.specs.Bytes.{at}
use Rattle.recipe_kernels.specs.Kernels.{kernel_on, weighted_tests}
use Rattle.recipe_stages.specs.StageBytes.{stage_tests, stage_of}
use Rattle.near_rows.specs.declared.Channel.{Channel}
use Rattle.near_rows.specs.Places.{channel_near}
use Rattle.whole_taps.specs.declared.Taps.{Taps}
use Rattle.whole_taps.specs.Whole.{kernel_is}
use Rattle.verdict_answers.proofs.OneStage.{stage_tests_lem, stage_long}
use Rattle.exact_stages.specs.Fits.{Fits, Sides}
use Rattle.exact_stages.specs.Numerators.{exact_numerator}
use Rattle.exact_stages.proofs.Stages.{one-stage, kinds, ratio_work, ratio_tests, weights_ratios, no_outline, stage-near}

-- ---- the N of each kind

ratio_size : (across down : Taps) → across.divisor * down.divisor ≡ denominator 1 (weighted (kernel_is across) (kernel_is down))
unfolding denominator kernel_is kernel
ratio_size across down = sym (one-mul _)

box-size : (r s : ℕ) → area r s ≡ denominator 1 (box r s)
unfolding denominator
box-size r s = sym (one-mul _)

rank-size : (r s p : ℕ) → 1 ≡ denominator 1 (rank r s p)
unfolding denominator
rank-size r s p = refl

-- ---- kind by kind

module _ {recipe : List ℕ} (f : Fits recipe) where
  one : at recipe 0 ≡ 1
  one = one-stage recipe f.fit

  -- its header bytes are there
  pub long : 4 ≤ length recipe
  long = stage_long recipe f.accepted one

  pub passed : verdict (stage_tests (drop 1 recipe)) ≡ Ok tt
  passed = stage_tests_lem recipe f.accepted one

  -- the bytes behind them
  behind : drop 3 (drop 1 recipe) ≡ drop 4 recipe
  behind = drop-drop 3 1 recipe

  module _ (w h : ℕ) (s : Code.Stage) (stands : Stands s (stage_of (drop 1 recipe))) where
    abbrev pub frame_of : Frame
    frame_of = record { width = w; height = h; border = s.border; value = s.value }

    pub framed : {samples : List ℕ} → Sides w h → length samples ≡ h * w → Framed frame_of samples
    framed sides e = record { width = sides.width; height = sides.height; whole = e }

    -- ---- ratios

    module _ (e : s.work ≡ Weighted) where
      does : Does Weighted s (stage_of (drop 1 recipe)).work
      does = rw e at stands.work

      ratios : at (drop 1 recipe) 0 ≡ 1
      ratios = weights_ratios (drop 1 recipe) (kinds recipe f.fit) does.2

      pub tap_tests_lem : verdict (weighted_tests false (drop 4 recipe)) ≡ Ok tt
      tap_tests_lem = rw behind at (ratio_tests (drop 1 recipe) ratios passed)

      pub ratios_same : (c : ℕ) (ch : Channel) (received samples : List ℕ) (across down : Taps) → kernel_is across ≡ kernel_on false 0 (drop 4 recipe) → kernel_is down ≡ kernel_on false 1 (drop 4 recipe)
          → channel_near c (across.divisor * down.divisor) w h ch received (λ u v. numerator (weighted (kernel_is across) (kernel_is down)) (neighbours frame_of samples u v))
          ≡ channel_near c (denominator 1 (stage_of (drop 1 recipe)).work) w h ch received (exact_numerator w h (stage_of (drop 1 recipe)) samples)
      ratios_same c ch received samples across down a d =
          stage-near c w h (across.divisor * down.divisor) ch received samples s (stage_of (drop 1 recipe)) (weighted (kernel_is across) (kernel_is down)) stands
          (ratio_work (drop 1 recipe) ratios ∙ rw (behind, a, d) refl) (ratio_size across down)

    -- ---- a box

    module _ {x : Window} (e : s.work ≡ Boxed x) where
      pub box-same : (c : ℕ) (ch : Channel) (received samples : List ℕ)
          → channel_near c (area x.r x.s) w h ch received (λ u v. numerator (box x.r x.s) (neighbours frame_of samples u v))
          ≡ channel_near c (denominator 1 (stage_of (drop 1 recipe)).work) w h ch received (exact_numerator w h (stage_of (drop 1 recipe)) samples)
      box-same c ch received samples = stage-near c w h (area x.r x.s) ch received samples s (stage_of (drop 1 recipe)) (box x.r x.s) stands (rw e at stands.work) (box-size x.r x.s)

    -- ---- a rank

    module _ {x : Rank} (e : s.work ≡ Ranked x) where
      pub rank_same : (c : ℕ) (ch : Channel) (received samples : List ℕ)
          → channel_near c 1 w h ch received (λ u v. numerator (rank x.window.r x.window.s x.position) (neighbours frame_of samples u v))
          ≡ channel_near c (denominator 1 (stage_of (drop 1 recipe)).work) w h ch received (exact_numerator w h (stage_of (drop 1 recipe)) samples)
      rank_same c ch received samples =
          stage-near c w h 1 ch received samples s (stage_of (drop 1 recipe)) (rank x.window.r x.window.s x.position) stands (rw e at stands.work) (rank-size x.window.r x.window.s x.position)

    -- ---- no outline is there

    pub never_outlined : s.work ≡ Outlined → ⊥
    never_outlined e = no_outline (drop 1 recipe) (kinds recipe f.fit) (is (rw e at stands.work))
      where
        is : Does Outlined s (stage_of (drop 1 recipe)).work → (stage_of (drop 1 recipe)).work ≡ outline
        is d = d
