-- T after a stage that the code holds is T after the stage that it stands for. Assumes nothing.
use Prim.Native.Nat.{ℕ, ◌+◌, ◌*◌, ◌≤◌, min}
use mathlib.Core.Path.{◌≡◌, sym, ◌∙◌}
use Rattle.model.specs.Stage as Model
use Rattle.model.specs.Tolerance.{weighted_growth, after_stage}
use Rattle.tolerance.proofs.Growth.{after_weighted, after_box, after_rank, after_outline}
use Rattle.stage_values.specs.declared.Work.TheVariants.{Weighted, Boxed, Ranked, Outlined}
use Rattle.stage_values.specs.declared.Stage.{Stage}
use Rattle.stage_values.specs.declared.Rank.{Rank}
use Rattle.stage_values.specs.declared.Window.{Window}
use Rattle.stage_values.specs.Stands.{Does, Stands}
use Rattle.stage_values.proofs.ReadyLaws.{rounded_few}

growth-same : (T : ℕ) {g1 g2 n m g1' g2' n' m' : ℕ} → g1 ≡ g1' → g2 ≡ g2' → n ≡ n' → m ≡ m' → min (weighted_growth g1 g2 n m T) 16711680 ≡ min (weighted_growth g1' g2' n' m' T) 16711680
growth-same T a b c d = rw (a, b, c, d)

module _ (s : Stage) (t : Model.Stage) (h : Stands s t) where
  module _ (e : s.work ≡ Weighted) where
    does : Does Weighted s t.work
    does = rw e at h.work

    pub weighted-limits : (s.across.gain ≤ 262144) × (s.down.gain ≤ 262144) × (s.across.rounded ≤ 31) × (s.down.rounded ≤ 31)
    weighted-limits = let d = does in (d.3.limited, d.4.limited, rounded_few d.3, rounded_few d.4)

    pub weighted_after : (T : ℕ) {units : ℕ} → units ≡ min (weighted_growth s.across.gain s.down.gain s.across.rounded s.down.rounded T) 16711680 → units ≡ after_stage T t
    weighted_after T f =
        let d = does in
        f ∙ growth-same T d.3.scaled-gain d.4.scaled-gain d.3.rounded d.4.rounded ∙ sym (after_weighted T t d.2)

  pub box_after : (T : ℕ) {x : Window} {units : ℕ} → s.work ≡ Boxed x → units ≡ min (T + 32768) 16711680 → units ≡ after_stage T t
  box_after T {x} e f = let d : Does (Boxed x) s t.work = rw e at h.work in f ∙ sym (after_box T t d)

  pub rank_after : (T : ℕ) {x : Rank} {units : ℕ} → s.work ≡ Ranked x → units ≡ min T 16711680 → units ≡ after_stage T t
  rank_after T {x} e f = let d : Does (Ranked x) s t.work = rw e at h.work in f ∙ sym (after_rank T t d)

  pub outline_after : (T : ℕ) {units : ℕ} → s.work ≡ Outlined → units ≡ min (6 * T) 16711680 → units ≡ after_stage T t
  outline_after T e f = let d : Does Outlined s t.work = rw e at h.work in f ∙ sym (after_outline T t d)
