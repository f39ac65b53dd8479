-- `rank_search::rank_row` meets its contract: each result is among the levels that are left for its column, down to one. Assumes nothing.
use Prim.Native.Nat.{ℕ, ◌≤◌, ◌<◌}
use mathlib.Core.Path.{◌≡◌}
use lib.ListN.{get_or, drop}
use Rattle.rank_search.specs.WindowAt.{window_at}
use Rattle.rank_search.proofs.Search.{Among}
use Rattle.rank_search.proofs.rank_row.Given as goal

abbrev pub invariant-loop-levels : goal.invariant-loop-levels
invariant-loop-levels l = (1 ≤ l.levels) × (l.levels ≤ 256) × (drop l.w l.dst ≡ drop l.w l.fn.dst) × ((u : ℕ) → u < l.w → Among l.p (window_at l.rows l.w l.r l.n u) l.levels (get_or l.dst u 0))

abbrev pub decreases-loop-levels : goal.decreases-loop-levels
decreases-loop-levels l = l.levels
