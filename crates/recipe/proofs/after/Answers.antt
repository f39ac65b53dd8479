-- `recipe::after` meets its contract. Assumes nothing.
use Rattle.recipe.proofs.Works.{weighted-limits, weighted_after, box_after, rank_after, outline_after}
use Rattle.recipe.proofs.after.Goals as goal

pub after_weighted-requires : goal.after_weighted-requires
after_weighted-requires c =
    let h = c.requires in
    let l = weighted-limits c.args.s h.1.0 h.1.1 c.in-Weighted.is in
    (h.0, l.0, l.1, l.2, l.3)

pub returns-in-Weighted : goal.returns-in-Weighted
returns-in-Weighted c =
    let e = c.after_weighted.ensures in
    (e.1, λ t h. weighted_after c.args.s t h c.in-Weighted.is c.args.total.units e.0)

pub returns-in-Boxed : goal.returns-in-Boxed
returns-in-Boxed c =
    let e = c.after_box.ensures in
    (e.1, λ t h. box_after c.args.s t h c.args.total.units c.in-Boxed.is e.0)

pub returns-in-Ranked : goal.returns-in-Ranked
returns-in-Ranked c =
    let e = c.after_rank.ensures in
    (e.1, λ t h. rank_after c.args.s t h c.args.total.units c.in-Ranked.is e.0)

pub returns-in-Outlined : goal.returns-in-Outlined
returns-in-Outlined c =
    let e = c.after_outline.ensures in
    (e.1, λ t h. outline_after c.args.s t h c.args.total.units c.in-Outlined.is e.0)
