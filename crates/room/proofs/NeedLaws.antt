-- The most sums, a stage at a time. Assumes nothing.
use Prim.Native.Nat.{ℕ, max}
use native.Mathlib.Omega.{arith}
use mathlib.Core.Path.{◌≡◌}
use mathlib.Core.List.{List, [], ◌∷◌}
use Rattle.model.specs.Stage as Model
use Rattle.table_sizes.specs.Needs.{work_sums, sum_need}

largest : (a n r : ℕ) → max a (max n r) ≡ max (max n a) r
largest a n r = omega arith

-- the largest of those before and those that are left
pub need_more : (w : ℕ) (t : Model.Stage) (ts : List Model.Stage) (a n : ℕ) → n ≡ work_sums w t.work → max a (sum_need w (t ∷ ts)) ≡ max (max n a) (sum_need w ts)
unfolding sum_need
need_more w t ts a n e = rw e (largest a (work_sums w t.work) (sum_need w ts))

pub need_none : (w a : ℕ) → max a (sum_need w []) ≡ a
unfolding sum_need
need_none w a = omega arith
