-- `told_verdict::verdict` meets its contract. Assumes nothing.
use Rattle.told_verdict.proofs.Telling.{gives_verdict}
use Rattle.told_verdict.proofs.verdict.Goals as goal

pub returns : goal.returns
returns c =
    gives_verdict c.verdict.ensures c.tell.ensures
