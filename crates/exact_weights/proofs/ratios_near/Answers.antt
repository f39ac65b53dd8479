-- `exact_weights::ratios_near` meets its contract: row by row, and the first row that is not near decides. Assumes nothing.
use native.Mathlib.Omega.{arith}
use mathlib.Core.Bool.{not}
use mathlib.Core.Path.{refl, ap}
use lib.ListN.{get_or}
use lib.IntN.{pos}
use Rattle.near_rows.proofs.RowLaws.{no_rows, one-row-more, row-not-near, all-rows-near, rows_inside}
use borrow.Author.Rules.{rules}
use Rattle.exact_weights.proofs.ratios_near.Invariants.{at}
use Rattle.exact_weights.proofs.ratios_near.Goals as goal

pub loop-v-init : goal.loop-v-init
loop-v-init c =
    let a = c.args in (no_rows a.c c.denominator-n.result a.frame.width a.frame.height a.channel a.received.now (at a.frame a.across.taps a.down.taps a.plane.now), refl, refl, refl)

pub slice_bounds-row_numerators-end : goal.slice_bounds-row_numerators-end
slice_bounds-row_numerators-end c =
    c.loop-v.invariant.1

pub slice_bounds-row_numerators-end-in-loop-v : goal.slice_bounds-row_numerators-end-in-loop-v
slice_bounds-row_numerators-end-in-loop-v c =
    c.loop-v.invariant.2

pub slice_bounds-row_numerators-end-in-loop-v-2 : goal.slice_bounds-row_numerators-end-in-loop-v-2
slice_bounds-row_numerators-end-in-loop-v-2 c =
    c.loop-v.invariant.3

pub row_numerators-requires : goal.row_numerators-requires
row_numerators-requires c =
    let p = c.requires in
    let L = c.loop-v in
    (p.0, omega (arith, c.loop-v-test.true, p.0.height.1), omega (arith, L.invariant.1, p.0.width.1), omega (arith, L.invariant.2, p.0.width.1), omega (arith, L.invariant.3, p.0.width.1))

pub row_near-requires : goal.row_near-requires
row_near-requires c =
    let p = c.requires in
    let t = c.loop-v-test.true in
    (p.0.width.0, p.0.width.1, omega (arith, t, p.0.height.1), omega (arith, p.0.width.1, c.loop-v.invariant.3), rows_inside p.1 t, c.denominator-n.ensures.1, p.2)

pub returns : goal.returns
returns c =
    let a = c.args in
    let L = c.loop-v in
    rw (← c.denominator-n.ensures.0) (all-rows-near a.c c.denominator-n.result a.frame.width a.frame.height a.channel a.received.now (at a.frame a.across.taps a.down.taps a.plane.now) L.v L.auto.v-end c.loop-v-test.false L.invariant.0)

pub returns-then-not-row_near : goal.returns-then-not-row_near
returns-then-not-row_near c =
    let a = c.args in
    rw (← c.denominator-n.ensures.0)
    (row-not-near a.c c.denominator-n.result a.frame.width a.frame.height a.channel a.received.now (at a.frame a.across.taps a.down.taps a.plane.now) c.loop-v.v (λ u. get_or c.row_numerators.new.wide u (pos 0)) _ c.row_numerators.ensures c.row_near.ensures c.loop-v-test.true (ap not c.if-not-row_near.true))

pub loop-v-preserved : goal.loop-v-preserved
loop-v-preserved c =
    let a = c.args in
    let L = c.loop-v in (
      one-row-more a.c c.denominator-n.result a.frame.width a.frame.height a.channel a.received.now (at a.frame a.across.taps a.down.taps a.plane.now) L.v (λ u. get_or c.row_numerators.new.wide u (pos 0)) _ c.row_numerators.ensures c.row_near.ensures L.invariant.0 (ap not c.if-not-row_near.false),
      search rules,
      search rules,
      search rules,
    )
