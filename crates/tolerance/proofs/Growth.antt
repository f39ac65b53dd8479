-- The tolerance after a stage of each kind, and that it stays cut. Assumes nothing.
use Prim.Native.Nat.{ℕ, ◌+◌, ◌*◌, ◌≤◌, min}
use mathlib.Core.Path.{◌≡◌, ap}
use native.Mathlib.Omega.{arith}
use Rattle.model.specs.Kernel.{Kernel}
use Rattle.model.specs.Apportion.{rounded_taps}
use Rattle.model.specs.Stage.{Work, weighted, box, rank, outline, Stage}
use Rattle.model.specs.Tolerance.{scaled_gain, weighted_growth, growth, after_stage}

module _ (T : ℕ) (t : Stage) where
  of_work : {w : Work} → t.work ≡ w → after_stage T t ≡ min (growth w T) 16711680
  unfolding after_stage
  of_work h = ap (λ (w : Work). min (growth w T) 16711680) h

  pub after_weighted : {across down : Kernel} → t.work ≡ weighted across down
      → after_stage T t ≡ min (weighted_growth (scaled_gain across) (scaled_gain down) (rounded_taps across) (rounded_taps down) T) 16711680
  unfolding growth
  after_weighted h = of_work h

  pub after_box : {r s : ℕ} → t.work ≡ box r s → after_stage T t ≡ min (T + 32768) 16711680
  unfolding growth
  after_box h = of_work h

  pub after_rank : {r s p : ℕ} → t.work ≡ rank r s p → after_stage T t ≡ min T 16711680
  unfolding growth
  after_rank h = of_work h

  pub after_outline : t.work ≡ outline → after_stage T t ≡ min (6 * T) 16711680
  unfolding growth
  after_outline h = of_work h

  pub after_le : after_stage T t ≤ 16711680
  unfolding after_stage
  after_le = omega arith
