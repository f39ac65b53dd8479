-- `movement_runs::counted` meets its contract: what is counted in the two parts. Assumes nothing.
use Rattle.movement_runs.proofs.Runs.{counts_in_lem, back}
use Rattle.movement_runs.proofs.counted.Goals as goal

pub returns : goal.returns
returns c =
    let a = c.args in
    counts_in_lem a.limit a.pair a.out1.now a.out2.now (back c.requires.ends) c.count_motions-counts.ensures
