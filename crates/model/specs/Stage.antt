-- A stage, and the written chain: what the whole-number rules give through a list of stages.
use Rattle.std.specs.Prelude.{ℕ, List, [], ◌∷◌}
use Rattle.lists.specs.Tabulate.{raster}
use Rattle.model.specs.Border.{Border}
use Rattle.model.specs.Plane.{Plane, Neighbourhood, plane_of, around}
use Rattle.model.specs.Kernel.{Kernel}
use Rattle.model.specs.Weighted.{weighted_result}
use Rattle.model.specs.Box.{box_result}
use Rattle.model.specs.Rank.{rank_result}
use Rattle.model.specs.Outline.{outline_result}

-- 'The three kinds of work', and the outline of request 2026-01: two kernels, across and down; radii r, s; radii r, s and position p; nothing
pub data Work : Type 0 where
  weighted : Kernel → Kernel → Work
  box : ℕ → ℕ → Work
  rank : ℕ → ℕ → ℕ → Work
  outline : Work

-- a stage: its border, its border value and its work
pub record Stage : Type 0 where
  pub border : Border
  pub value : ℕ
  pub work : Work

unfoldable pub stage : Border → ℕ → Work → Stage
stage b k w = record { border = b; value = k; work = w }

-- the work's result on a neighbourhood
unfoldable pub result : Work → Neighbourhood → ℕ
result (weighted across down) f = weighted_result across down f
result (box r s) f = box_result r s f
result (rank r s p) f = rank_result r s p f
result outline f = outline_result f

-- a stage on a plane of W by H
unfoldable pub stage_plane : ℕ → ℕ → Stage → Plane → Plane
stage_plane W H t f u v = result t.work (around t.border t.value W H f u v)

-- the written chain, row by row: each stage works on the whole plane that the one before wrote
unfoldable pub written : ℕ → ℕ → List Stage → List ℕ → List ℕ
written W H [] samples = samples
written W H (t ∷ ts) samples = written W H ts (raster (stage_plane W H t (plane_of W samples)) W H)
