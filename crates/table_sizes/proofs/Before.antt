-- NO MORE SUMS THAN BEFORE request 2026-09, when a box stage held them for its whole extended frame. Assumes nothing.
use Prim.Native.Nat.{ℕ, ◌+◌, ◌*◌, max, ◌≤◌}
use native.Mathlib.Nat.{mul-le-mul_left}
use native.Mathlib.Omega.{arith}
use mathlib.Core.Path.{◌≡◌, refl, ap}
use mathlib.Core.List.{List, [], ◌∷◌}
use Rattle.model.specs.Stage.{Work, weighted, box, rank, outline, Stage}
use Rattle.table_sizes.specs.Needs.{work_sums, sum_need}

-- the sums that a work held before, and those that all stages needed
unfoldable pub table_before : ℕ → ℕ → Work → ℕ
table_before W H (weighted across down) = 0
table_before W H (box r s) = (W + 2 * r + 1) * (H + 2 * s + 1)
table_before W H (rank r s p) = 0
table_before W H outline = 0

unfoldable pub need_before : ℕ → ℕ → List Stage → ℕ
need_before W H [] = 0
need_before W H (t ∷ ts) = max (table_before W H t.work) (need_before W H ts)

module _ (W : ℕ) where
  held_less : (H : ℕ) → 1 ≤ H → (t : Work) → work_sums W t ≤ table_before W H t
  unfolding work_sums table_before
  held_less H h (weighted across down) = omega arith
  held_less H h (box r s) = mul-le-mul_left (W + 2 * r + 1) (omega (arith, h))
  held_less H h (rank r s p) = omega arith
  held_less H h outline = omega arith

  -- for every list of stages, so what was enough still is
  pub never_more : (H : ℕ) → 1 ≤ H → (ts : List Stage) → sum_need W ts ≤ need_before W H ts
  unfolding sum_need need_before
  never_more H h [] = omega arith
  never_more H h (t ∷ ts) = omega (arith, held_less H h t.work, never_more H h ts)

  held_alike : (t : Work) → work_sums W t ≡ table_before W 1 t
  unfolding work_sums table_before
  held_alike (weighted across down) = refl
  held_alike (box r s) = let rows : 2 * s + 2 ≡ 1 + 2 * s + 1 = omega arith in ap (λ (n : ℕ). (W + 2 * r + 1) * n) rows
  held_alike (rank r s p) = refl
  held_alike outline = refl

  -- and a frame of one row needs as many as it did
  pub one_row_alike : (ts : List Stage) → sum_need W ts ≡ need_before W 1 ts
  unfolding sum_need need_before
  one_row_alike [] = refl
  one_row_alike (t ∷ ts) = rw (held_alike t.work, one_row_alike ts)
