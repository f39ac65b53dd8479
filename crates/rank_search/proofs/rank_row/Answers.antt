-- `rank_search::rank_row` meets its contract: each result is among the levels that are left for its column, down to one. Assumes nothing.
use Prim.Native.Nat.{ℕ}
use native.Mathlib.Nat.{le_antisymm}
use native.Mathlib.Omega.{arith}
use mathlib.Core.Path.{◌∙◌}
use Rattle.lists.proofs.Tabulate.{filled_at, filled_behind}
use Rattle.rank_search.specs.WindowAt.{window_at}
use Rattle.rank_search.proofs.Search.{Among, among_all, halved_left, found-row, window_enough, window_bytes, zeros_filled}
use borrow.Author.Rules.{rules}
use Rattle.rank_search.proofs.rank_row.Goals as goal

pub loop-levels-init : goal.loop-levels-init
loop-levels-init c =
    let a = c.args in
    let p = c.requires in
    let R = a.rows.now in
    let zeros = zeros_filled a.w a.dst.now _ p.6 (c.fill.ensures.after (λ y e. search rules)) in
    let all : (u : ℕ) → Among a.p (window_at R a.w a.r a.n u) 256 0 = λ u.
    among_all a.p _ p.4 (window_enough R a.w a.r a.n a.p u p.5)
    (window_bytes R a.w a.r a.n a.p u p.5 (λ i. omega (arith, c.type_inv.rows i))) in
    (omega arith, omega arith, filled_behind _ a.w _ _ zeros, λ u b. rw (filled_at _ a.w _ _ 0 u zeros b) (all u))

pub loop-levels-preserved : goal.loop-levels-preserved
loop-levels-preserved c =
    let a = c.args in
    let p = c.requires in
    let L = c.loop-levels in
    let t = c.loop-levels-test.true in
    let left = halved_left a.p a.w (window_at a.rows.now a.w a.r a.n) L.levels _ L.dst _ p.4
    (λ u. window_enough a.rows.now a.w a.r a.n a.p u p.5) (omega (arith, t)) (omega arith) c.halve.ensures L.invariant.3 in
    (omega (arith, t), omega (arith, t, L.invariant.1), left.0 ∙ L.invariant.2, left.1)

pub returns : goal.returns
returns c =
    let a = c.args in
    let L = c.loop-levels in
    let one = le_antisymm c.loop-levels-test.false L.invariant.0 in
    rw L.invariant.2 at (found-row a.p a.w (window_at a.rows.now a.w a.r a.n) L.dst (search rules) (rw one at L.invariant.3))
