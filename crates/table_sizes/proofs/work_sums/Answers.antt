-- `table_sizes::work_sums` meets its contract: by kind of work. Assumes nothing.
use mathlib.Core.Path.{◌∙◌}
use mathlib.Core.Logic.{⊎_elim}
use Rattle.table_sizes.proofs.Tables.{weighted_sums, box_sums, rank_sums, outline_sums}
use Rattle.table_sizes.proofs.work_sums.Goals as goal

pub returns-in-Boxed : goal.returns-in-Boxed
returns-in-Boxed c =
    λ t k. c.ring_size.ensures ∙ box_sums _ c.args.stage t k c.in-Boxed.is

pub returns-in-Weighted : goal.returns-in-Weighted
returns-in-Weighted c =
    let s = c.args.stage in
    λ t k. ⊎_elim (weighted_sums _ s t k) (⊎_elim (λ h. rank_sums _ s t k h.1) (outline_sums _ s t k)) c.in-Weighted.is
