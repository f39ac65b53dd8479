-- `rank_search::halve` meets its contract: counts at the trial levels, and the halves by the counts. Assumes nothing.
use Rattle.rank_search.specs.WindowAt.{window_at}
use Rattle.rank_search.proofs.Search.{halved-row}
use Rattle.rank_search.proofs.halve.Goals as goal

pub returns : goal.returns
returns c =
    let a = c.args in
    halved-row a.p a.w (window_at a.rows.now a.w a.r a.n) a.half a.low.now _ _ _ c.tally_window.ensures c.raise.ensures
