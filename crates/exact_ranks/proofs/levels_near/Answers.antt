-- `exact_ranks::levels_near` meets its contract. Assumes nothing.
use mathlib.Core.Path.{ap, ◌∙◌}
use lib.IntN.{pos}
use Rattle.lists.proofs.Tabulate.{filled_at}
use Rattle.near_rows.specs.Near.{near_clamped}
use Rattle.near_rows.specs.Places.{sample_at}
use Rattle.near_rows.proofs.EverywhereLaws.{everywhere_ext}
use Rattle.exact_ranks.proofs.levels_near.Goals as goal

pub returns : goal.returns
returns c =
    let a = c.args in
    c.row_near.ensures ∙ everywhere_ext _ _ a.w (λ u h. ap (near_clamped a.c 1 (sample_at a.w a.channel a.received.now u a.v)) (filled_at _ a.w _ _ (pos 0) u c.widen.ensures h))
