-- `exact_ranks::small_near` meets its contract: row by row, with the rows of its windows in hand, and the first row that is not near decides. Assumes nothing.
use Prim.Native.Nat.{◌+◌, ◌-◌}
use native.Mathlib.Omega.{arith}
use mathlib.Core.Bool.{not}
use mathlib.Core.Path.{◌≡◌, refl, ap}
use Rattle.near_rows.proofs.RowLaws.{no_rows, one-row-more, row-not-near, all-rows-near}
use Rattle.exact_ranks.proofs.Ranks.{rank_at, row_ranks}
use borrow.Author.Rules.{rules}
use Rattle.exact_ranks.proofs.small_near.Goals as goal

pub loop-v-init : goal.loop-v-init
loop-v-init c =
    let a = c.args in
    let start : 14 - a.rank.window.s + 0 ≡ 14 - a.rank.window.s = omega arith in
    (no_rows a.c 1 a.frame.width a.frame.height a.channel a.received.now (rank_at a.frame a.rank.window.r a.rank.window.s a.rank.position a.plane.now), rw start c.first_rows.ensures, search rules, refl, refl, refl)

pub returns-then-not-levels_near : goal.returns-then-not-levels_near
returns-then-not-levels_near c =
    let a = c.args in
    let L = c.loop-v in
    let ranks = row_ranks a.frame a.rank.window.r a.rank.window.s a.rank.position L.v a.plane.now L.levels _ c.rank_row.ensures.0 in
    row-not-near a.c 1 a.frame.width a.frame.height a.channel a.received.now (rank_at a.frame a.rank.window.r a.rank.window.s a.rank.position a.plane.now) L.v _ _
    ranks c.levels_near.ensures c.loop-v-test.true (ap not c.if-not-levels_near.true)

pub loop-v-preserved : goal.loop-v-preserved
loop-v-preserved c =
    let a = c.args in
    let L = c.loop-v in
    let ranks = row_ranks a.frame a.rank.window.r a.rank.window.s a.rank.position L.v a.plane.now L.levels _ c.rank_row.ensures.0 in (
      one-row-more a.c 1 a.frame.width a.frame.height a.channel a.received.now (rank_at a.frame a.rank.window.r a.rank.window.s a.rank.position a.plane.now) L.v _ _
          ranks c.levels_near.ensures L.invariant.0 (ap not c.if-not-levels_near.false),
      c.rank_row.ensures.1,
      search rules,
      search rules,
      search rules,
      search rules,
    )

pub returns : goal.returns
returns c =
    let a = c.args in
    all-rows-near a.c 1 a.frame.width a.frame.height a.channel a.received.now (rank_at a.frame a.rank.window.r a.rank.window.s a.rank.position a.plane.now) c.loop-v.v c.loop-v.auto.v-end c.loop-v-test.false c.loop-v.invariant.0
