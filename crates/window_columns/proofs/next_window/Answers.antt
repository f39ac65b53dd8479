-- `window_columns::next_window` meets its contract: what leaves, and what enters. Assumes nothing.
use Prim.Native.Nat.{ℕ, ◌+◌, ◌-◌, ◌≤◌, ◌<◌}
use native.Mathlib.Nat.{le_trans}
use native.Mathlib.Omega.{arith}
use mathlib.Core.Path.{◌≡◌}
use lib.ListN.{get_or}
use Rattle.window_columns.specs.Columns.{column_in}
use Rattle.histograms.proofs.Counts.{length-histogram, counted_ge}
use Rattle.window_columns.proofs.Slide.{can_leave, count_few, below_few, next_counts, leaving_le, next_below}
use Rattle.window_columns.proofs.Placed.{length-column, below-le}
use borrow.Author.Rules.{rules}
use Rattle.window_columns.proofs.next_window.Goals as goal

pub leave-fewer-requires : goal.leave-fewer-requires
leave-fewer-requires c =
    let p = c.requires in
    (p.0, p.1, p.4, omega (arith, p.6), length-histogram _ _ p.7, can_leave _ _ _ _ p.7 p.2)

pub enter-more-requires : goal.enter-more-requires
enter-more-requires c =
    let a = c.args in
    let p = c.requires in
    let size = length-histogram _ _ p.7 in
    let few : (g : ℕ) → get_or a.counts.now g 0 ≤ 961 = λ g. count_few (column_in a.frame a.plane.now a.rows.now a.down) a.counts.now a.down (a.x - 1) a.across g (λ z. length-column a.frame a.plane.now a.rows.now a.down z p.1.few) p.4 p.3 p.7 in
    (p.0, p.1, p.4, omega (arith, p.6, p.3), search (rules, size), λ g. le_trans (counted_ge _ _ _ g (search (rules, size)) c.leave-fewer.ensures.0) (few g))

pub overflow_sub-result : goal.overflow_sub-result
overflow_sub-result c =
    let p = c.requires in
    leaving_le _ _ _ _ p.7 _ _ _ (omega (arith, c.well_formed)) p.2 p.8 c.leave-fewer.ensures.1

pub overflow_add-result : goal.overflow_add-result
overflow_add-result c =
    let a = c.args in
    let p = c.requires in
    let level : a.at.level < 256 = omega (arith, c.well_formed) in
    let before = below_few (column_in a.frame a.plane.now a.rows.now a.down) a.counts.now a.down (a.x - 1) a.across a.at.level (λ z. length-column a.frame a.plane.now a.rows.now a.down z p.1.few) p.4 p.3 p.7 level in
    let more = below-le a.frame a.plane.now a.rows.now a.down (a.x - 1 + a.across) a.at.level p.1.few in
    record { fits = omega (arith, p.8, before, more, p.4, c.enter-more.ensures.1) }

pub returns : goal.returns
returns c =
    let a = c.args in
    let p = c.requires in
    let counts = next_counts _ _ _ _ p.7 _ _ c.leave-fewer.ensures.0 c.enter-more.ensures.0 in
    let on : a.x - 1 + 1 ≡ a.x = omega (arith, p.5) in
    (rw on at counts, next_below _ _ _ _ p.7 _ _ _ (omega (arith, c.well_formed)) p.2 p.8 c.leave-fewer.ensures.1 _ _ counts c.enter-more.ensures.1)
