-- The sums of a stage that the code holds are those of the stage that it stands for. Assumes nothing.
use Prim.Native.Nat.{ℕ, ◌≤◌}
use native.Mathlib.Nat.{mul-le-mul}
use native.Mathlib.Omega.{arith}
use mathlib.Core.Path.{◌≡◌}
use Rattle.model.specs.Stage as Model
use Rattle.stage_values.specs.declared.Work.TheVariants.{Weighted, Boxed, Ranked, Outlined}
use Rattle.stage_values.specs.declared.Stage.{Stage}
use Rattle.stage_values.specs.declared.Window.{Window}
use Rattle.stage_values.specs.declared.Rank.{Rank}
use Rattle.stage_values.specs.Stands.{Does, Stands}
use Rattle.table_sizes.specs.Ring.{ring_size}
use Rattle.table_sizes.specs.Needs.{work_sums}

module _ (w : ℕ) (s : Stage) (t : Model.Stage) (k : Stands s t) where
  pub weighted_sums : s.work ≡ Weighted → 0 ≡ work_sums w t.work
  unfolding work_sums
  weighted_sums e = let d : Does Weighted s t.work = rw e at k.work in rw d.2

  pub box_sums : {x : Window} → s.work ≡ Boxed x → ring_size w x.r x.s ≡ work_sums w t.work
  unfolding work_sums
  box_sums {x} e = let d : Does (Boxed x) s t.work = rw e at k.work in rw d (omega arith)

  pub rank_sums : {x : Rank} → s.work ≡ Ranked x → 0 ≡ work_sums w t.work
  unfolding work_sums
  rank_sums {x} e = let d : Does (Ranked x) s t.work = rw e at k.work in rw d

  pub outline_sums : s.work ≡ Outlined → 0 ≡ work_sums w t.work
  unfolding work_sums
  outline_sums e = let d : Does Outlined s t.work = rw e at k.work in rw d

-- a ring is small
pub ring_small : (w r s : ℕ) → w ≤ 8192 → r ≤ 15 → s ≤ 15 → ring_size w r s ≤ 263136
ring_small w r s a b c = mul-le-mul {n₂ = 32} {m₂ = 8223} (omega (arith, c)) (omega (arith, a, b))
