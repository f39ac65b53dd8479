-- `small_ranks::rank_row` meets its contract: with the row that comes in, the windows of row v are whole. Assumes nothing.
use Prim.Native.Nat.{◌+◌, ◌-◌, ◌≤◌}
use native.Mathlib.Omega.{arith}
use mathlib.Core.Path.{◌≡◌}
use Rattle.model.specs.Window.{area}
use Rattle.model_laws.proofs.Window.{area-le}
use Rattle.small_ranks.proofs.Rows.{held_fewer, row_results}
use Rattle.small_ranks.proofs.rank_row.Goals as goal

pub overflow_cast-p : goal.overflow_cast-p
overflow_cast-p c =
    let rank = c.args.rank in
    record { fits = omega (arith, rank.inside.1, area-le rank.window.r rank.window.s 3 3 c.requires.1 c.requires.2) }

pub rank_row-requires : goal.rank_row-requires
unfolding area
rank_row-requires c =
    let p = c.requires in
    let rank = c.args.rank in
    (p.0.width.1, p.1, omega (arith, p.2), omega (arith, p.4, c.push_row.auto.rows), rank.inside.0, omega (arith, rank.inside.1), p.6, p.5)

pub returns : goal.returns
returns c =
    let a = c.args in
    let s = a.rank.window.s in
    let low : s ≤ 14 = omega (arith, c.requires.2) in
    let held = c.push_row.ensures 0 c.requires.7 in
    let next : 14 - s + a.v + 1 ≡ 14 - s + (a.v + 1) = omega arith in
    (rw (row_results a.frame _ a.rank.window a.v low held a.rank.position) at c.rank_row.ensures, held_fewer a.frame _ 0 1 (omega arith) (rw next at held))
